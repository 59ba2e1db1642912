-- A merged board is a board.
use Rattle.std.specs.Prelude.{◌≡◌, ℕ, ◌+◌, ◌-◌, ◌<◌, ◌≤◌, Bool, true, false, cond, not, ◌&&◌, ◌⊎◌, Some, None, Option, ◌==◌, nat_lt, refl}
use Rattle.std.proofs.Common.{sym, ◌∙◌, inl, inr}
use Rattle.std.proofs.Math.Path.{ap}
use native.Mathlib.Omega.{arith}
use Rattle.std.proofs.lemmas.Bool.{cases_eq, cond-true, cond-false, and_parts, ltb-true, eqb-false, not-true, eq-eqb, ne_eqb, and_from, lt-ltb, not_from_false}
use Rattle.board.specs.Shape.{Shape, Sound, sum_below, row_total, all_links}
use Rattle.board.specs.Sums.{sum_same, sum_none, sum_plus, sum_up, sum_at}
use Rattle.board.specs.Walks.{off_left}
use Rattle.layer.specs.Layers.{up}
use Rattle.layer.specs.Uplifts.{up_above, sum_drop}
use Rattle.layer.specs.declared.merge.Pair.{Pair}
use Rattle.layer.specs.Merges.{joined_m, joined_s, merged, merge_active, merge_at, merge_of, MergeOn}

cond_sum : (n : ℕ) (t : Bool) (f : ℕ → ℕ) → sum_below n (λ k. cond t (f k) 0) ≡ cond t (sum_below n f) 0
cond_sum n true f = refl
cond_sum n false f = sum_none n (λ k. 0) (λ k h. refl)

cond_le : (t : Bool) (x : ℕ) → cond t 0 x ≤ x
cond_le true x = omega arith
cond_le false x = omega arith

cond_none : (t : Bool) (x : ℕ) → x ≡ 0 → cond t 0 x ≡ 0
cond_none true x e = refl
cond_none false x e = e

eqb_sym : (p q : ℕ) → (p == q) ≡ (q == p)
eqb_sym p q = elim (cases_eq p q) [ inl e ↦ eq-eqb p q e ∙ sym (eq-eqb q p (sym e)) | inr e ↦ ne_eqb p q e ∙ sym (ne_eqb q p (λ f. e (sym f))) ]

module _ {x : Shape} (ok : Sound x) (a b : ℕ) (on-a : a < x.sites) (on-b : b < x.sites) (apart : a ≡ b → ⊥) where
  high : (v : ℕ) → x.sites - 1 ≤ v → x.sites ≤ up a v
  high v h = omega (arith, up_above a v (omega arith))

  -- b is met once
  pick : (y : ℕ) → sum_below (x.sites - 1) (λ k. cond (b == up a k) y 0) ≡ y
  pick y = omega (arith, sum_drop x.sites a (λ k. cond (b == k) y 0) on-a, sum_at x.sites b y on-b, cond-false (b == a) y 0 (ne_eqb b a (λ e. apart (sym e))))

  joined_sym : (p q : ℕ) → joined_m a b x p q ≡ joined_m a b x q p
  joined_sym p q =
      let e : x.m p q + (cond (b == p) (x.m a q) 0 + cond (b == q) (x.m p a) 0) ≡ x.m q p + (cond (b == q) (x.m a p) 0 + cond (b == p) (x.m q a) 0)
      = omega (arith, ok.symmetric p q, ap (λ y. cond (b == p) y 0) (ok.symmetric a q), ap (λ y. cond (b == q) y 0) (ok.symmetric p a)) in
      ap (λ t. cond t 0 (x.m p q + (cond (b == p) (x.m a q) 0 + cond (b == q) (x.m p a) 0))) (eqb_sym p q) ∙ ap (cond (q == p) 0) e

  joined_off : (p q : ℕ) → x.sites ≤ q → joined_m a b x p q ≡ 0
  joined_off p q h =
      cond_none (p == q) _ (omega (arith, ok.off p q h, ap (λ y. cond (b == p) y 0) (ok.off a q h), cond_const (b == p), cond-false (b == q) (x.m p a) 0 (ne_eqb b q (λ e. omega arith)))) where
        cond_const : (t : Bool) → cond {A = ℕ} t 0 0 ≡ 0
        cond_const true = refl
        cond_const false = refl

  row_le : (u : ℕ) → sum_below (x.sites - 1) (λ v. joined_m a b x (up a u) (up a v))
      ≤ (sum_below (x.sites - 1) (λ v. x.m (up a u) (up a v)) + x.m (up a u) a) + cond (b == up a u) (sum_below (x.sites - 1) (λ v. x.m a (up a v))) 0
  row_le u =
      let n : ℕ = x.sites - 1 in
      let p : ℕ = up a u in
      let f : ℕ → ℕ = λ v. x.m (up a u) (up a v) in
      let g : ℕ → ℕ = λ v. cond (b == up a u) (x.m a (up a v)) 0 in
      let h : ℕ → ℕ = λ v. cond (b == up a v) (x.m (up a u) a) 0 in
      omega (
        arith,
        sum_up n (λ v. joined_m a b x (up a u) (up a v)) (λ v. f v + (g v + h v)) (λ v l. cond_le (up a u == up a v) (f v + (g v + h v))),
        sum_plus n f (λ v. g v + h v),
        sum_plus n g h,
        pick (x.m (up a u) a),
        cond_sum n (b == up a u) (λ v. x.m a (up a v)),
      )

  merged_total : all_links (merged a b x) ≤ 500000
  unfolding merged
  merged_total =
      let n : ℕ = x.sites - 1 in
      let rest : ℕ → ℕ = λ u. sum_below (x.sites - 1) (λ v. x.m (up a u) (up a v)) in
      let to : ℕ → ℕ = λ u. x.m (up a u) a in
      let mine : ℕ = sum_below (x.sites - 1) (λ v. x.m a (up a v)) in
      let bump : ℕ → ℕ = λ u. cond (b == up a u) (sum_below (x.sites - 1) (λ v. x.m a (up a v))) 0 in
      let rows = sum_same n (λ u. row_total x (up a u)) (λ u. rest u + to u) (λ u l. sum_drop x.sites a (x.m (up a u)) on-a) in
      omega (
        arith,
        ok.total,
        rows,
        sum_up n (λ u. sum_below (x.sites - 1) (λ v. joined_m a b x (up a u) (up a v))) (λ u. (rest u + to u) + bump u) (λ u l. row_le u),
        sum_plus n (λ u. rest u + to u) bump,
        pick mine,
        sum_drop x.sites a (row_total x) on-a,
        sum_drop x.sites a (x.m a) on-a,
        sum_plus n (λ v. x.s (up a v)) (λ v. cond (b == up a v) (x.s a) 0),
        pick (x.s a),
        sum_drop x.sites a x.s on-a,
      )

  pub merged_sound : Sound (merged a b x)
  unfolding merged
  merged_sound = record {
    some = omega (arith, apart);
    few = omega (arith, ok.few);
    symmetric = λ u v. joined_sym (up a u) (up a v);
    no_loop = λ v. cond-true (up a v == up a v) 0 _ (eq-eqb (up a v) (up a v) refl);
    off = λ u v h. joined_off (up a u) (up a v) (high v h);
    off_drain = λ v h. omega (arith, ok.off_drain (up a v) (high v h), cond-false (b == up a v) (x.s a) 0 (ne_eqb b (up a v) (λ e. omega (arith, high v h))));
    total = merged_total;
  }

sound_at : (x : Shape) → Sound x → (o : Option Pair) → MergeOn x o → Sound (merge_at x o)
sound_at x ok None h = ok
sound_at x ok (Some p) h = merged_sound ok p.a p.b h.0 h.1 h.2

active_on : (x : Shape) (o : Option Pair) → MergeOn x (merge_active x o)
active_on x None = tt
active_on x (Some p) = go (nat_lt p.a x.sites && (nat_lt p.b x.sites && not (p.a == p.b))) refl where
  go : (t : Bool) → (nat_lt p.a x.sites && (nat_lt p.b x.sites && not (p.a == p.b))) ≡ t → MergeOn x (cond t (Some p) None)
  go false e = tt
  go true e =
      let h = and_parts (nat_lt p.a x.sites) (nat_lt p.b x.sites && not (p.a == p.b)) e in
      let k = and_parts (nat_lt p.b x.sites) (not (p.a == p.b)) h.1 in
      (ltb-true p.a x.sites h.0, ltb-true p.b x.sites k.0, eqb-false p.a p.b (not-true (p.a == p.b) k.1))

pub merge_sound : (x : Shape) → Sound x → (o : Option Pair) → Sound (merge_of x o)
merge_sound x ok o = sound_at x ok (merge_active x o) (active_on x o)

-- the members of the layer where p is merged
module _ (x : Shape) (o : Option Pair) (p : Pair) (e : merge_active x o ≡ Some p) where
  pub is_merged : merge_of x o ≡ merged p.a p.b x
  is_merged = ap (merge_at x) e

  pub at_sites : (merge_of x o).sites ≡ x.sites - 1
  unfolding merged
  at_sites = ap (λ (y : Shape). y.sites) is_merged

  pub at_m : (u v : ℕ) → (merge_of x o).m u v ≡ joined_m p.a p.b x (up p.a u) (up p.a v)
  unfolding merged
  at_m u v = ap (λ (y : Shape). y.m u v) is_merged

  pub at_s : (v : ℕ) → (merge_of x o).s v ≡ joined_s p.a p.b x (up p.a v)
  unfolding merged
  at_s v = ap (λ (y : Shape). y.s v) is_merged

  pub met_m : (u v u1 v1 : ℕ) → u1 ≡ up p.a u → v1 ≡ up p.a v → joined_m p.a p.b x u1 v1 ≡ (merge_of x o).m u v
  met_m u v u1 v1 eu ev = ap (λ y. joined_m p.a p.b x y v1) eu ∙ ap (joined_m p.a p.b x (up p.a u)) ev ∙ sym (at_m u v)

  pub met_s : (v v1 : ℕ) → v1 ≡ up p.a v → joined_s p.a p.b x v1 ≡ (merge_of x o).s v
  met_s v v1 ev = ap (joined_s p.a p.b x) ev ∙ sym (at_s v)

  pub off_zero : Sound x → (u v : ℕ) → (x.sites - 1 ≤ u) ⊎ (x.sites - 1 ≤ v) → (merge_of x o).m u v ≡ 0
  off_zero ok u v (inl h) = off_left (merge_sound x ok o) u v (omega (arith, at_sites))
  off_zero ok u v (inr h) = (merge_sound x ok o).off u v (omega (arith, at_sites))

  -- the links of v, seen from below
  pub seen : (v v1 : ℕ) → v1 ≡ up p.a v → (k : ℕ) → (merge_of x o).m v k ≡ joined_m p.a p.b x v1 (up p.a k)
  seen v v1 ev k = at_m v k ∙ ap (λ y. joined_m p.a p.b x y (up p.a k)) (sym ev)

-- a pair that is set takes effect
pub set_merged : (x : Shape) (p : Pair) → MergeOn x (Some p) → merge_of x (Some p) ≡ merged p.a p.b x
set_merged x p h =
    ap (merge_at x) (cond-true (nat_lt p.a x.sites && (nat_lt p.b x.sites && not (p.a == p.b))) (Some p) None
    (and_from (nat_lt p.a x.sites) _ (lt-ltb p.a x.sites h.0) (and_from (nat_lt p.b x.sites) _ (lt-ltb p.b x.sites h.1) (not_from_false _ (ne_eqb p.a p.b h.2)))))
