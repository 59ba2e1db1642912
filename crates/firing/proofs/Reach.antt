-- Distances to the drain.
use Rattle.std.proofs.Common.{◌≡◌, ℕ, zero, suc, ◌+◌, ◌<◌, ◌≤◌, Bool, true, false, cond, leb, ◌⊎◌, refl, ap, subst, inl, inr, arith}
use native.Mathlib.Decide.{dec_le}
use Rattle.std.proofs.lemmas.Bool.{both_ways, leb-true, le-leb}
use Rattle.board.specs.Shape.{Shape, deg}
use Rattle.board.specs.Sums.{sum_term}
use Rattle.firing.specs.Reaching.{Reaches, out, along, AllReach, AllLinked}
use Rattle.firing.specs.TakingBack.{links_into}
use Rattle.firing.proofs.Sums.{sum_some}
use Rattle.firing.proofs.Degrees.{deg_is}
use Rattle.firing.proofs.Choosing.{first, first_holds, first_least, first_below}
use Rattle.firing.proofs.Sets.{into_same, into_has}
use Rattle.firing.proofs.Growing as growing

-- v is at most k links from the drain
abbrev pub within : Shape → ℕ → ℕ → Bool
within b zero v = false
within b (suc k) v = leb 1 (b.s v + links_into b (λ u. within b k u) v)

-- how many links v is from the drain
abbrev pub dist : Shape → ℕ → ℕ
dist b v = first (λ k. within b k v) b.sites

-- d is a distance: a drain link at 1, a link to one less at more, and no link to less than one less
pub record Layers (b : Shape) (d : ℕ → ℕ) (top : ℕ) : Type 0 where
  pub from_one : (v : ℕ) → v < b.sites → 1 ≤ d v
  pub bounded : (v : ℕ) → v < b.sites → d v ≤ top
  pub edge : (v : ℕ) → v < b.sites → d v ≡ 1 → 1 ≤ b.s v
  pub down : (v : ℕ) → v < b.sites → 2 ≤ d v → (u : ℕ) × (u < b.sites) × (1 ≤ b.m v u) × (d v ≡ d u + 1)
  pub close : (v u : ℕ) → v < b.sites → u < b.sites → 1 ≤ b.m v u → d v ≤ d u + 1

cond_some : (s : Bool) (m : ℕ) → 1 ≤ cond s m 0 → (s ≡ true) × (1 ≤ m)
cond_some true m l = (refl, l)
cond_some false m l = absurd (omega arith)

module _ (b : Shape) where
  pub within_out : (k v : ℕ) → 1 ≤ b.s v → within b (suc k) v ≡ true
  within_out k v l = le-leb 1 _ (let p : 1 ≤ b.s v + links_into b (within b k) v = omega arith in p)

  pub within_along : (k v u : ℕ) → u < b.sites → 1 ≤ b.m v u → within b k u ≡ true → within b (suc k) v ≡ true
  within_along k v u l m e = le-leb 1 _ (let p : 1 ≤ b.s v + links_into b (within b k) v = omega (arith, into_has b (within b k) v u l e) in p)

  -- to the drain at once, or by a site one nearer
  pub within_by : (k v : ℕ) → within b (suc k) v ≡ true → (1 ≤ b.s v) ⊎ ((u : ℕ) × (u < b.sites) × (1 ≤ b.m v u) × (within b k u ≡ true))
  within_by k v e = go (dec_le 1 (b.s v)) (leb-true 1 (b.s v + links_into b (within b k) v) e)
    where
      go : Dec (1 ≤ b.s v) → 1 ≤ b.s v + links_into b (within b k) v → (1 ≤ b.s v) ⊎ ((u : ℕ) × (u < b.sites) × (1 ≤ b.m v u) × (within b k u ≡ true))
      go (yes p) l = inl p
      go (no q) l =
          let f = sum_some b.sites (λ u. cond (within b k u) (b.m v u) 0) (omega arith) in
          let p = cond_some (within b k f.0) (b.m v f.0) f.2 in
          inr (f.0, f.1, p.1, p.0)

  pub within_grow : (k v : ℕ) → within b k v ≡ true → within b (suc k) v ≡ true
  within_grow zero v e = absurd (both_ways false refl e)
  within_grow (suc k) v e =
      elim (within_by k v e) [
        | inl p ↦ within_out (suc k) v p
        | inr f ↦ within_along (suc k) v f.0 f.1 f.2 (within_grow k f.0 f.3)
      ]

  within_carry : (k : ℕ) → ((v : ℕ) → v < b.sites → within b (suc k) v ≡ within b k v) → (v : ℕ) → v < b.sites → within b (suc (suc k)) v ≡ within b (suc k) v
  within_carry k same v l = ap (λ x. leb 1 (b.s v + x)) (into_same b (within b (suc k)) (within b k) same v)

  -- what is ever within, is within as many links as there are sites
  pub within_in_time : (k v : ℕ) → v < b.sites → within b k v ≡ true → within b b.sites v ≡ true
  within_in_time = growing.in_time b.sites (within b) (λ k v l. within_grow k v) within_carry

  pub reaches_on : {v : ℕ} → Reaches b v → v < b.sites
  reaches_on (out v l s) = l
  reaches_on (along v u l m r) = l

  pub reaches_within : {v : ℕ} → Reaches b v → (k : ℕ) × (within b k v ≡ true)
  reaches_within (out v l s) = (1, within_out 0 v s)
  reaches_within (along v u l m r) = let f = reaches_within r in (suc f.0, within_along f.0 v u (reaches_on r) m f.1)

  pub reaches_near : {v : ℕ} → Reaches b v → within b b.sites v ≡ true
  reaches_near {v} r = let f = reaches_within r in within_in_time f.0 v (reaches_on r) f.1

  pub within_reaches : (k v : ℕ) → v < b.sites → within b k v ≡ true → Reaches b v
  within_reaches zero v l e = absurd (both_ways false refl e)
  within_reaches (suc k) v l e =
      elim (within_by k v e) [
        | inl p ↦ out v l p
        | inr f ↦ along v f.0 l f.2 (within_reaches k f.0 f.1 f.3)
      ]

  -- a set that has the sites with drain links, and the neighbours of its own, has all that reach the drain
  pub reach_closed : (F : ℕ → Bool) → ((v : ℕ) → v < b.sites → 1 ≤ b.s v → F v ≡ true)
      → ((v u : ℕ) → v < b.sites → u < b.sites → 1 ≤ b.m v u → F u ≡ true → F v ≡ true) → {v : ℕ} → Reaches b v → F v ≡ true
  reach_closed F outer inner (out v l s) = outer v l s
  reach_closed F outer inner (along v u l m r) = inner v u l (reaches_on r) m (reach_closed F outer inner r)

  pub reach_linked : AllReach b → AllLinked b
  reach_linked every v l = go (every v l)
    where
      go : Reaches b v → 1 ≤ deg b v
      go (out x lx s) = omega (arith, deg_is b v)
      go (along x u lx m r) = omega (arith, sum_term b.sites u (b.m v) (reaches_on r), deg_is b v)

  module _ (every : AllReach b) where
    dist_holds : (v : ℕ) → v < b.sites → within b (dist b v) v ≡ true
    dist_holds v l = first_holds b.sites (λ k. within b k v) (reaches_near (every v l))

    dist_least : (k v : ℕ) → within b k v ≡ true → dist b v ≤ k
    dist_least k v e = first_least b.sites (λ j. within b j v) k e

    dist_one : (v : ℕ) → v < b.sites → 1 ≤ dist b v
    dist_one v l = go (dist b v) (dist_holds v l)
      where
        go : (d : ℕ) → within b d v ≡ true → 1 ≤ d
        go zero e = absurd (both_ways false refl e)
        go (suc d) e = omega arith

    dist_close : (v u : ℕ) → v < b.sites → u < b.sites → 1 ≤ b.m v u → dist b v ≤ dist b u + 1
    dist_close v u l l' m = omega (arith, dist_least (suc (dist b u)) v (within_along (dist b u) v u l' m (dist_holds u l')))

    dist_edge : (v : ℕ) → v < b.sites → dist b v ≡ 1 → 1 ≤ b.s v
    dist_edge v l e =
        elim (within_by 0 v (subst (λ k. within b k v ≡ true) e (dist_holds v l))) [
          | inl p ↦ p
          | inr f ↦ absurd (both_ways false refl f.3)
        ]

    dist_down : (v : ℕ) → v < b.sites → 2 ≤ dist b v → (u : ℕ) × (u < b.sites) × (1 ≤ b.m v u) × (dist b v ≡ dist b u + 1)
    dist_down v l two = go (dist b v) refl (dist_holds v l)
      where
        go : (d : ℕ) → dist b v ≡ d → within b d v ≡ true → (u : ℕ) × (u < b.sites) × (1 ≤ b.m v u) × (dist b v ≡ dist b u + 1)
        go zero e h = absurd (omega arith)
        go (suc d) e h =
            elim (within_by d v h) [
              | inl p ↦ absurd (omega (arith, dist_least 1 v (within_out 0 v p)))
              | inr f ↦ (f.0, f.1, f.2, omega (arith, dist_least d f.0 f.3, dist_close v f.0 l f.1 f.2))
            ]

    pub distances : Layers b (dist b) b.sites
    distances =
        record {
          from_one = dist_one;
          bounded = λ v l. first_below b.sites (λ k. within b k v);
          edge = dist_edge;
          down = dist_down;
          close = dist_close;
        }
