-- When the counts of heights at rest are the least that settle, and the largest set that can be taken back.
use Rattle.std.proofs.Common.{◌≡◌, ℕ, zero, suc, ◌+◌, ◌-◌, ◌*◌, ◌<◌, ◌≤◌, Bool, true, false, cond, not, ◌&&◌, ◌||◌, eqb, refl, ap, ◌∙◌, inl, inr, mul-le-mul_right, mul-le-mul_left, arith}
use native.Mathlib.Decide.{dec_le}
use Rattle.std.proofs.lemmas.Bool.{both_ways, eqb-true, eqb-false, eq-eqb, ne_eqb, or_cases, or_left, or_right, and_from, not_from_false}
use Rattle.board.specs.Shape.{Shape, Sound, deg, sum_below}
use Rattle.board.specs.Sums.{sum_same, sum_up, sum_plus}
use Rattle.firing.specs.Firing.{fires_from, Still}
use Rattle.firing.specs.Settling.{inflow, Settles, Follows, AtMost, Least}
use Rattle.firing.specs.Reaching.{AllLinked}
use Rattle.firing.specs.TakingBack.{links_into, Lower, TakesBack, Empty, Largest}
use Rattle.firing.proofs.Sums.{sum_scale, sum_point}
use Rattle.firing.proofs.Degrees.{deg_in}
use Rattle.firing.proofs.Choosing.{somewhere, largest}
use Rattle.firing.proofs.Sets.{into_le, into_back}
use Rattle.firing.proofs.Action.{still_below, still_settles}

-- one product, less what the set takes back of it
back : (m k w : ℕ) → w ≡ k + 1 → m * w ≡ m * k + m
back m k w e = rw e (omega arith)

back_in : (s : Bool) (m w : ℕ) → (s ≡ true → 1 ≤ w) → m * w ≡ m * (w - cond s 1 0) + cond s m 0
back_in true m w p = let one = p refl in back m (w - 1) w (omega arith)
back_in false m w p = let e : w - 0 ≡ w = omega arith in rw e (omega arith)

-- one product, more by at most k, and by one more at the set
ahead : (s : Bool) (m k w w' : ℕ) → (s ≡ false → w ≤ w' + k) → w ≤ w' + k + 1 → m * w ≤ m * w' + (m * k + cond s m 0)
ahead true m k w w' p q = omega (arith, mul-le-mul_left m q)
ahead false m k w w' p q = omega (arith, mul-le-mul_left m (p refl))

in_set : (h t d w k c i i⁻ F : ℕ) → w ≡ k + 1 → h + d * w ≡ c + i → i ≡ i⁻ + F → h + d < t + F → c + i⁻ < t + d * k
in_set h t d w k c i i⁻ F e f s lt = let g : h + d * (k + 1) ≡ c + i = rw e at f in omega arith

off_set : (h t d w k c i i⁻ F : ℕ) → w ≡ k → h + d * w ≡ c + i → i ≡ i⁻ + F → h < t → c + i⁻ < t + d * k
off_set h t d w k c i i⁻ F e f s lt = let g : h + d * k ≡ c + i = rw e at f in omega arith

over : (h t d w w' k c i i' M F : ℕ) → w ≡ w' + k + 1 → h + d * w ≡ c + i → c + i' < t + d * w' → i ≤ i' + (M * k + F) → M ≤ d → h + d < t + F
over h t d w w' k c i i' M F e f s le Md =
    let g : h + d * (w' + k + 1) ≡ c + i = rw e at f in
    omega (arith, mul-le-mul_right k Md)

module _ (b : Shape) (sound : Sound b) where
  -- what comes in, less one firing of each site of S
  pub inflow_back : (w : ℕ → ℕ) (S : ℕ → Bool) → ((v : ℕ) → v < b.sites → S v ≡ true → 1 ≤ w v) → (v : ℕ) → inflow b w v ≡ inflow b (λ u. w u - cond (S u) 1 0) v + links_into b S v
  inflow_back w S p v =
      sum_same b.sites _ _ (λ u l. back_in (S u) (b.m u v) (w u) (p u l))
      ∙ sum_plus b.sites (λ u. b.m u v * (w u - cond (S u) 1 0)) (λ u. cond (S u) (b.m u v) 0)
      ∙ ap (λ x. inflow b (λ u. w u - cond (S u) 1 0) v + x) (into_back b sound S v)

  -- taken back, the counts still settle
  pub back_settles : AllLinked b → (c h w : ℕ → ℕ) → Follows b c w h → Still b h → (S : ℕ → Bool) → TakesBack b w h S → Settles b c (λ v. w v - cond (S v) 1 0)
  back_settles linked c h w follows still S takes v l = go (S v) refl
    where
      split : inflow b w v ≡ inflow b (λ u. w u - cond (S u) 1 0) v + links_into b S v
      split = inflow_back w S (λ u l' t. (takes u l' t).0) v

      go : (s : Bool) → S v ≡ s → c v + inflow b (λ u. w u - cond (S u) 1 0) v < fires_from b v + deg b v * (w v - cond s 1 0)
      go true e =
          let p = takes v l e in
          in_set (h v) (fires_from b v) (deg b v) (w v) (w v - 1) (c v) (inflow b w v) (inflow b (λ u. w u - cond (S u) 1 0) v) (links_into b S v)
          (omega arith) (follows v l) split p.1
      go false e =
          off_set (h v) (fires_from b v) (deg b v) (w v) (w v - 0) (c v) (inflow b w v) (inflow b (λ u. w u - cond (S u) 1 0) v) (links_into b S v)
          (omega arith) (follows v l) split (still_below b linked h still v l)

  pub least_no_back : AllLinked b → (c h w : ℕ → ℕ) → Follows b c w h → Still b h → ((w' : ℕ → ℕ) → Settles b c w' → AtMost b w w') → (S : ℕ → Bool) → TakesBack b w h S → Empty b S
  least_no_back linked c h w follows still least S takes v l = go (S v) refl
    where
      go : (s : Bool) → S v ≡ s → s ≡ false
      go false e = refl
      go true e =
          let p = takes v l e in
          let q : w v ≤ w v - cond (S v) 1 0 = least (λ u. w u - cond (S u) 1 0) (back_settles linked c h w follows still S takes) v l in
          let r : w v ≤ w v - 1 = rw e at q in
          absurd (omega arith)

  module _ (c h w : ℕ → ℕ) (follows : Follows b c w h) (w' : ℕ → ℕ) (settles : Settles b c w') (k : ℕ)
      (best : (u : ℕ) → u < b.sites → w u - w' u ≤ suc k) where
    -- where w is ahead of w' by suc k
    pub lead : ℕ → Bool
    lead u = eqb (w u - w' u) (suc k)

    pub lead_back : TakesBack b w h lead
    unfolding lead
    lead_back v l e =
        let at : w v - w' v ≡ suc k = eqb-true (w v - w' v) (suc k) e in
        let more : inflow b w v ≤ sum_below b.sites (λ u. b.m u v * w' u + (b.m u v * k + cond (lead u) (b.m u v) 0)) =
        sum_up b.sites _ _
        (λ u l'. ahead (lead u) (b.m u v) k (w u) (w' u) (λ f. omega (arith, best u l', eqb-false (w u - w' u) (suc k) f)) (omega (arith, best u l'))) in
        let one = sum_plus b.sites (λ u. b.m u v * w' u) (λ u. b.m u v * k + cond (lead u) (b.m u v) 0) in
        let two = sum_plus b.sites (λ u. b.m u v * k) (λ u. cond (lead u) (b.m u v) 0) in
        let three = sum_scale b.sites (λ u. b.m u v) k in
        let four = into_back b sound lead v in (
          omega arith,
          over (h v) (fires_from b v) (deg b v) (w v) (w' v) k (c v) (inflow b w v) (inflow b w' v) (sum_below b.sites (λ u. b.m u v)) (links_into b lead v)
              (omega arith) (follows v l) (settles v l) (omega arith) (omega (arith, deg_in b sound v)),
        )

  pub no_back_least : (c h w : ℕ → ℕ) → Follows b c w h → ((S : ℕ → Bool) → TakesBack b w h S → Empty b S) → (w' : ℕ → ℕ) → Settles b c w' → AtMost b w w'
  no_back_least c h w follows none w' settles v l = elim (dec_le (w v) (w' v)) [ yes le ↦ le | no gt ↦ absurd (ahead_never gt (largest b.sites (λ u. w u - w' u) (omega arith))) ]
    where
      ahead_never : ¬ (w v ≤ w' v) → (x : ℕ) × (x < b.sites) × ((u : ℕ) → u < b.sites → w u - w' u ≤ w x - w' x) → ⊥
      ahead_never gt (x, lx, best) =
          let k : ℕ = w x - w' x - 1 in
          let e : w x - w' x ≡ suc k = omega (arith, best v l) in
          let best' : (u : ℕ) → u < b.sites → w u - w' u ≤ suc k = λ u l'. rw (← e) (best u l') in
          both_ways (eqb (w x - w' x) (suc k))
          (unfold lead in none (lead c h w follows w' settles k best') (lead_back c h w follows w' settles k best') x lx)
          (eq-eqb (w x - w' x) (suc k) e)

  -- counts whose end follows and is still, and from which nothing can be taken back, are the least
  pub certified : AllLinked b → (c h w : ℕ → ℕ) → Follows b c w h → Still b h → ((S : ℕ → Bool) → TakesBack b w h S → Empty b S) → Least b c w
  certified linked c h w follows still none =
      record { settles = still_settles b linked c h w follows still; least = no_back_least c h w follows none }

-- S without the site x
abbrev pub without : (ℕ → Bool) → ℕ → ℕ → Bool
without S x v = S v && not (eqb v x)

-- how many sites S has
abbrev pub size : Shape → (ℕ → Bool) → ℕ
size b S = sum_below b.sites (λ v. cond (S v) 1 0)

module _ (b : Shape) (w h : ℕ → ℕ) where
  pub union_back : (S S' : ℕ → Bool) → TakesBack b w h S → TakesBack b w h S' → TakesBack b w h (λ v. S v || S' v)
  union_back S S' one two v l e =
      elim (or_cases (S v) (S' v) e) [
        | inl p ↦ ((one v l p).0, omega (arith, (one v l p).1, into_le b S (λ u. S u || S' u) (λ u l' q. or_left (S u) (S' u) q) v))
        | inr p ↦ ((two v l p).0, omega (arith, (two v l p).1, into_le b S' (λ u. S u || S' u) (λ u l' q. or_right (S u) (S' u) q) v))
      ]

  -- a site of S that goes: no set within S that can be taken back has it
  abbrev pub Goes : (ℕ → Bool) → ℕ → Type 0
  Goes S x = (S x ≡ true) × ((1 ≤ w x) × Lower b h S x → ⊥)

  pub goes_dec : (S : ℕ → Bool) (x : ℕ) → Dec (Goes S x)
  goes_dec S x = go (S x) refl (dec_le 1 (w x)) (dec_le (suc (h x + deg b x)) (fires_from b x + links_into b S x))
    where
      go : (s : Bool) → S x ≡ s → Dec (1 ≤ w x) → Dec (Lower b h S x) → Dec (Goes S x)
      go false e d d' = no (λ p. both_ways (S x) e p.0)
      go true e (no q) d' = yes (e, λ p. q p.0)
      go true e (yes p) (no q) = yes (e, λ p'. q p'.1)
      go true e (yes p) (yes p') = no (λ n. n.1 (p, p'))

  -- all that can be taken back is within S
  abbrev pub Covers : (ℕ → Bool) → Type 0
  Covers S = (S' : ℕ → Bool) → TakesBack b w h S' → (v : ℕ) → v < b.sites → S' v ≡ true → S v ≡ true

  -- one site less
  pub goes_step : (S : ℕ → Bool) (x : ℕ) → x < b.sites → Goes S x → Covers S → Covers (without S x)
  goes_step S x lx goes covers S' takes v l e = and_from (S v) (not (eqb v x)) (sub v l e) (not_from_false (eqb v x) (ne_eqb v x other))
    where
      sub : (u : ℕ) → u < b.sites → S' u ≡ true → S u ≡ true
      sub = covers S' takes

      other : v ≡ x → ⊥
      other p =
          let at = takes v l e in
          let more = into_le b S' S sub v in
          goes.1 (rw p at (let q : (1 ≤ w v) × Lower b h S v = (at.0, omega arith) in q))

  pub size_less : (S : ℕ → Bool) (x : ℕ) → x < b.sites → S x ≡ true → size b S ≡ size b (without S x) + 1
  size_less S x lx e =
      sum_point b.sites (λ v. cond (without S x v) 1 0) (λ v. cond (S v) 1 0) x 1 lx
      (rw (e, eq-eqb x x refl) refl)
      (λ u l ne. rw (ne_eqb u x ne) (kept (S u)))
    where
      kept : (s : Bool) → ◌≡◌ {A = ℕ} (cond s 1 0) (cond (s && true) 1 0)
      kept true = refl
      kept false = refl

  -- where no site of S goes, S can be taken back
  pub none_goes : (S : ℕ → Bool) → ((v : ℕ) → v < b.sites → ¬ Goes S v) → TakesBack b w h S
  none_goes S never v l e = go (dec_le 1 (w v)) (dec_le (suc (h v + deg b v)) (fires_from b v + links_into b S v))
    where
      go : Dec (1 ≤ w v) → Dec (Lower b h S v) → (1 ≤ w v) × Lower b h S v
      go (yes p) (yes q) = (p, q)
      go (yes p) (no q) = absurd (never v l (e, λ r. q r.1))
      go (no q) d = absurd (never v l (e, λ r. q r.0))

  pub none_goes_largest : (S : ℕ → Bool) → Covers S → ((v : ℕ) → v < b.sites → ¬ Goes S v) → Largest b w h S
  none_goes_largest S covers never = record { back = none_goes S never; holds = covers }

  remove : (k : ℕ) (S : ℕ → Bool) → size b S ≤ k → Covers S → (S' : ℕ → Bool) × Largest b w h S'
  remove zero S small covers =
      elim (somewhere (Goes S) (goes_dec S) b.sites) [
        | inl f ↦ absurd (omega (arith, size_less S f.0 f.1 f.2.0))
        | inr never ↦ (S, none_goes_largest S covers never)
      ]
  remove (suc k) S small covers =
      elim (somewhere (Goes S) (goes_dec S) b.sites) [
        | inl f ↦ remove k (without S f.0) (omega (arith, size_less S f.0 f.1 f.2.0)) (goes_step S f.0 f.1 f.2 covers)
        | inr never ↦ (S, none_goes_largest S covers never)
      ]

  pub largest_back : (S : ℕ → Bool) × Largest b w h S
  largest_back = remove (size b (λ v. true)) (λ v. true) (omega arith) (λ S takes v l e. refl)
