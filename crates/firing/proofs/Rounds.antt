-- What burns round by round, and the sets that never do.
use Rattle.std.proofs.Common.{◌≡◌, ℕ, zero, suc, ◌+◌, ◌<◌, ◌≤◌, Bool, true, false, cond, not, ◌||◌, eqb, ltb, leb, ◌⊎◌, sym, refl, ap, ◌∙◌, subst, inl, inr, arith}
use native.Mathlib.Decide.{ℕ_discrete, dec_le}
use Rattle.std.proofs.lemmas.Bool.{both_ways, cases_Bool, leb-true, le-leb, lt-ltb, le-ltb, eq-eqb, ne_eqb, eqb-true, ltb-true, or_left, or_right, or_from, or_cases, not-true, not-false, not_from_false, not_from_true}
use Rattle.board.specs.Shape.{Shape, deg}
use Rattle.firing.specs.Firing.{fires_from}
use Rattle.firing.specs.Settling.{Same}
use Rattle.firing.specs.TakingBack.{links_into, AsHigh, TakesBack, Empty}
use Rattle.firing.specs.Burning.{unburnt, Rounds, AllBurn, Stays}
use Rattle.firing.proofs.Choosing.{first, first_holds, first_least, first_below}
use Rattle.firing.proofs.Sets.{into_le, into_same}
use Rattle.firing.proofs.Growing as growing

-- unburnt, by the number of the round
pub unburnt_never : (r : ℕ → ℕ) (k v : ℕ) → r v ≡ 0 → unburnt r k v ≡ true
unburnt_never r k v e = or_left (eqb (r v) 0) (ltb k (r v)) (eq-eqb (r v) 0 e)

pub unburnt_later : (r : ℕ → ℕ) (k v : ℕ) → k < r v → unburnt r k v ≡ true
unburnt_later r k v l = or_right (eqb (r v) 0) (ltb k (r v)) (lt-ltb k (r v) l)

pub unburnt_by : (r : ℕ → ℕ) (k v : ℕ) → 1 ≤ r v → r v ≤ k → unburnt r k v ≡ false
unburnt_by r k v one le = or_from (eqb (r v) 0) (ltb k (r v)) (ne_eqb (r v) 0 (λ e. omega arith)) (le-ltb k (r v) le)

pub unburnt_cases : (r : ℕ → ℕ) (k v : ℕ) → unburnt r k v ≡ true → (r v ≡ 0) ⊎ (k < r v)
unburnt_cases r k v e =
    elim (or_cases (eqb (r v) 0) (ltb k (r v)) e) [
      | inl p ↦ inl (eqb-true (r v) 0 p)
      | inr p ↦ inr (ltb-true k (r v) p)
    ]

module _ (b : Shape) (h : ℕ → ℕ) where
  -- only what is unburnt matters
  pub high_same : (S S' : ℕ → Bool) → ((u : ℕ) → u < b.sites → S u ≡ S' u) → (v : ℕ) → AsHigh b h S v → AsHigh b h S' v
  high_same S S' same v p = omega (arith, into_same b S S' same v)

-- what has burnt after k rounds
abbrev pub burnt : Shape → (ℕ → ℕ) → ℕ → ℕ → Bool
burnt b h zero v = false
burnt b h (suc k) v = burnt b h k v || leb (fires_from b v + links_into b (λ u. not (burnt b h k u)) v) (h v + deg b v)

-- the round of v, or 0
abbrev pub round_of : Shape → (ℕ → ℕ) → ℕ → ℕ
round_of b h v = cond (burnt b h b.sites v) (first (λ k. burnt b h k v) b.sites) 0

-- v is marked with its round, or with 0 where it never burns
abbrev pub Marked : Shape → (ℕ → ℕ) → ℕ → ℕ → Type 0
Marked b h v zero = burnt b h b.sites v ≡ false
Marked b h v (suc k) = (burnt b h k v ≡ false) × (burnt b h (suc k) v ≡ true)

module _ (b : Shape) (h : ℕ → ℕ) where
  -- the sites not burnt after k rounds
  abbrev left : ℕ → ℕ → Bool
  left k v = not (burnt b h k v)

  burnt_grow : (k v : ℕ) → v < b.sites → burnt b h k v ≡ true → burnt b h (suc k) v ≡ true
  burnt_grow k v l e = or_left (burnt b h k v) (leb (fires_from b v + links_into b (left k) v) (h v + deg b v)) e

  burnt_carry : (k : ℕ) → ((v : ℕ) → v < b.sites → burnt b h (suc k) v ≡ burnt b h k v) → (v : ℕ) → v < b.sites → burnt b h (suc (suc k)) v ≡ burnt b h (suc k) v
  burnt_carry k same v l =
      ap (λ s. s || leb (fires_from b v + links_into b (left (suc k)) v) (h v + deg b v)) (same v l)
      ∙ ap (λ x. burnt b h k v || leb (fires_from b v + x) (h v + deg b v)) (into_same b (left (suc k)) (left k) (λ u l'. ap not (same u l')) v)

  pub burnt_in_time : (k v : ℕ) → v < b.sites → burnt b h k v ≡ true → burnt b h b.sites v ≡ true
  burnt_in_time = growing.in_time b.sites (burnt b h) burnt_grow burnt_carry

  pub burnt_later : (k j v : ℕ) → v < b.sites → k ≤ j → burnt b h k v ≡ true → burnt b h j v ≡ true
  burnt_later k zero v l le e = let z : k ≡ 0 = omega arith in subst (λ x. burnt b h x v ≡ true) z e
  burnt_later k (suc j) v l le e =
      elim (ℕ_discrete k (suc j)) [
        | yes p ↦ subst (λ x. burnt b h x v ≡ true) p e
        | no q ↦ burnt_grow j v l (burnt_later k j v l (omega arith) e)
      ]

  unburnt_if : (k v : ℕ) → (burnt b h k v ≡ true → ⊥) → burnt b h k v ≡ false
  unburnt_if k v no' = elim (cases_Bool (burnt b h k v)) [ inl t ↦ absurd (no' t) | inr f ↦ f ]

  -- a list that marks each site says what is unburnt
  marked_left : (r : ℕ → ℕ) (v : ℕ) → v < b.sites → (x : ℕ) → r v ≡ x → Marked b h v x → (k : ℕ) → unburnt r k v ≡ left k v
  marked_left r v l zero e m k =
      unburnt_never r k v e ∙ sym (not_from_false (burnt b h k v) (unburnt_if k v (λ t. both_ways (burnt b h b.sites v) m (burnt_in_time k v l t))))
  marked_left r v l (suc j) e m k =
      elim (dec_le (suc j) k) [
        | yes le ↦ unburnt_by r k v (omega arith) (omega arith) ∙ sym (not_from_true (burnt b h k v) (burnt_later (suc j) k v l le m.1))
        | no gt ↦
            unburnt_later r k v (omega arith)
            ∙ sym (not_from_false (burnt b h k v) (unburnt_if k v (λ t. both_ways (burnt b h j v) m.0 (burnt_later k j v l (omega arith) t))))
      ]

  -- and is the list of rounds
  left_rounds : (r : ℕ → ℕ) → ((k v : ℕ) → v < b.sites → unburnt r k v ≡ left k v) → Rounds b h r
  left_rounds r same v l k = (there, back)
    where
      there : r v ≡ suc k → (unburnt r k v ≡ true) × AsHigh b h (unburnt r k) v
      there e =
          let now : unburnt r k v ≡ true = unburnt_later r k v (omega arith) in
          let gone : burnt b h (suc k) v ≡ true = not-false (burnt b h (suc k) v) (sym (same (suc k) v l) ∙ unburnt_by r (suc k) v (omega arith) (omega arith)) in
          let not_yet : burnt b h k v ≡ false = not-true (burnt b h k v) (sym (same k v l) ∙ now) in
          let high : AsHigh b h (left k) v = elim (or_cases (burnt b h k v) (leb (fires_from b v + links_into b (left k) v) (h v + deg b v)) gone) [
            | inl t ↦ absurd (both_ways (burnt b h k v) not_yet t)
            | inr t ↦ leb-true (fires_from b v + links_into b (left k) v) (h v + deg b v) t
          ] in
          (now, high_same b h (left k) (unburnt r k) (λ u l'. sym (same k u l')) v high)

      back : (unburnt r k v ≡ true) × AsHigh b h (unburnt r k) v → r v ≡ suc k
      back p =
          let high : AsHigh b h (left k) v = high_same b h (unburnt r k) (left k) (same k) v p.1 in
          let gone : burnt b h (suc k) v ≡ true =
          or_right (burnt b h k v) (leb (fires_from b v + links_into b (left k) v) (h v + deg b v)) (le-leb (fires_from b v + links_into b (left k) v) (h v + deg b v) high) in
          let ends : unburnt r (suc k) v ≡ false = same (suc k) v l ∙ not_from_true (burnt b h (suc k) v) gone in
          elim (unburnt_cases r k v p.0) [
            | inl z ↦ absurd (both_ways (unburnt r (suc k) v) ends (unburnt_never r (suc k) v z))
            | inr lt ↦ elim (ℕ_discrete (r v) (suc k)) [
              | yes e ↦ e
              | no q ↦ absurd (both_ways (unburnt r (suc k) v) ends (unburnt_later r (suc k) v (omega arith)))
            ]
          ]

  -- a list that marks each site is the list of rounds
  pub marked_rounds : (r : ℕ → ℕ) → ((v : ℕ) → v < b.sites → Marked b h v (r v)) → Rounds b h r
  marked_rounds r marked = left_rounds r (λ k v l. marked_left r v l (r v) refl (marked v l) k)

  round_marked : (v : ℕ) (t : Bool) → burnt b h b.sites v ≡ t → (k : ℕ) → first (λ j. burnt b h j v) b.sites ≡ k → Marked b h v (cond t k 0)
  round_marked v false e k p = e
  round_marked v true e zero p = absurd (both_ways false refl (subst (λ x. burnt b h x v ≡ true) p (first_holds b.sites (λ j. burnt b h j v) e)))
  round_marked v true e (suc k) p = (
    unburnt_if k v (λ t. let le = first_least b.sites (λ j. burnt b h j v) k t in absurd (omega arith)),
    subst (λ x. burnt b h x v ≡ true) p (first_holds b.sites (λ j. burnt b h j v) e),
  )

  pub rounds_exist : Rounds b h (round_of b h)
  rounds_exist = marked_rounds (round_of b h) (λ v l. round_marked v (burnt b h b.sites v) refl (first (λ j. burnt b h j v) b.sites) refl)

  pub round_few : (v : ℕ) → round_of b h v ≤ b.sites
  round_few v = go (burnt b h b.sites v)
    where
      go : (t : Bool) → cond t (first (λ k. burnt b h k v) b.sites) 0 ≤ b.sites
      go true = first_below b.sites (λ k. burnt b h k v)
      go false = omega arith

  -- two lists of rounds agree in what is unburnt
  agree : (r r' : ℕ → ℕ) → Rounds b h r → Rounds b h r' → (k v : ℕ) → v < b.sites → unburnt r k v ≡ unburnt r' k v
  agree r r' one two zero v l = start r ∙ sym (start r')
    where
      start : (q : ℕ → ℕ) → unburnt q 0 v ≡ true
      start q = elim (ℕ_discrete (q v) 0) [ yes e ↦ unburnt_never q 0 v e | no n ↦ unburnt_later q 0 v (omega arith) ]
  agree r r' one two (suc k) v l = step (agree r r' one two k)
    where
      step : ((u : ℕ) → u < b.sites → unburnt r k u ≡ unburnt r' k u) → unburnt r (suc k) v ≡ unburnt r' (suc k) v
      step ih =
          elim (ℕ_discrete (r v) (suc k)) [
            | yes e ↦
                let p = (one v l k).0 e in
                let e' : r' v ≡ suc k = (two v l k).1 (sym (ih v l) ∙ p.0, high_same b h (unburnt r k) (unburnt r' k) ih v p.1) in
                unburnt_by r (suc k) v (omega arith) (omega arith) ∙ sym (unburnt_by r' (suc k) v (omega arith) (omega arith))
            | no q ↦ elim (ℕ_discrete (r' v) (suc k)) [
              | yes e ↦
                  let p = (two v l k).0 e in
                  absurd (q ((one v l k).1 (ih v l ∙ p.0, high_same b h (unburnt r' k) (unburnt r k) (λ u l'. sym (ih u l')) v p.1)))
              | no q' ↦ next r q ∙ ih v l ∙ sym (next r' q')
            ]
          ]
        where
          next : (p : ℕ → ℕ) → (p v ≡ suc k → ⊥) → unburnt p (suc k) v ≡ unburnt p k v
          next p n =
              elim (ℕ_discrete (p v) 0) [
                | yes z ↦ unburnt_never p (suc k) v z ∙ sym (unburnt_never p k v z)
                | no z ↦ elim (dec_le (p v) k) [
                  | yes le ↦ unburnt_by p (suc k) v (omega arith) (omega arith) ∙ sym (unburnt_by p k v (omega arith) le)
                  | no gt ↦ unburnt_later p (suc k) v (omega arith) ∙ sym (unburnt_later p k v (omega arith))
                ]
              ]

  -- the rounds of a list are unique
  pub rounds_once : (r r' : ℕ → ℕ) → Rounds b h r → Rounds b h r' → Same b r r'
  rounds_once r r' one two v l = go (r v) refl
    where
      same : (k : ℕ) → unburnt r k v ≡ unburnt r' k v
      same k = agree r r' one two k v l

      go : (x : ℕ) → r v ≡ x → r v ≡ r' v
      go zero e =
          elim (unburnt_cases r' (r' v) v (sym (same (r' v)) ∙ unburnt_never r (r' v) v e)) [ inl z ↦ omega arith | inr lt ↦ absurd (omega arith) ]
      go (suc j) e =
          let gone : unburnt r' (suc j) v ≡ false = sym (same (suc j)) ∙ unburnt_by r (suc j) v (omega arith) (omega arith) in
          elim (unburnt_cases r' j v (sym (same j) ∙ unburnt_later r j v (omega arith))) [
            | inl z ↦ absurd (both_ways (unburnt r' (suc j) v) gone (unburnt_never r' (suc j) v z))
            | inr lt ↦ elim (ℕ_discrete (r' v) (suc j)) [
              | yes p ↦ omega arith
              | no q ↦ absurd (both_ways (unburnt r' (suc j) v) gone (unburnt_later r' (suc j) v (omega arith)))
            ]
          ]

  pub rounds_few : (r : ℕ → ℕ) → Rounds b h r → (v : ℕ) → v < b.sites → r v ≤ b.sites
  rounds_few r rounds v l = omega (arith, rounds_once r (round_of b h) rounds rounds_exist v l, round_few v)

  -- no site of a set that stays burns
  pub stays_unburnt : (r : ℕ → ℕ) → Rounds b h r → (S : ℕ → Bool) → Stays b h S → (k v : ℕ) → v < b.sites → S v ≡ true → unburnt r k v ≡ true
  stays_unburnt r rounds S stays zero v l e = elim (ℕ_discrete (r v) 0) [ yes z ↦ unburnt_never r 0 v z | no n ↦ unburnt_later r 0 v (omega arith) ]
  stays_unburnt r rounds S stays (suc k) v l e = step (stays_unburnt r rounds S stays k)
    where
      step : ((u : ℕ) → u < b.sites → S u ≡ true → unburnt r k u ≡ true) → unburnt r (suc k) v ≡ true
      step ih =
          elim (unburnt_cases r k v (ih v l e)) [
            | inl z ↦ unburnt_never r (suc k) v z
            | inr lt ↦ elim (ℕ_discrete (r v) (suc k)) [
              | yes p ↦ absurd (omega (arith, ((rounds v l k).0 p).1, stays v l e, into_le b S (unburnt r k) ih v))
              | no q ↦ unburnt_later r (suc k) v (omega arith)
            ]
          ]

  -- what is unburnt at the end stays
  pub left_stays : (r : ℕ → ℕ) → Rounds b h r → Stays b h (unburnt r b.sites)
  left_stays r rounds v l e =
      elim (dec_le (suc (h v + deg b v)) (fires_from b v + links_into b (unburnt r b.sites) v)) [
        | yes p ↦ p
        | no q ↦ absurd (omega (arith, (rounds v l b.sites).1 (e, omega arith), rounds_few r rounds v l))
      ]

  pub burn_empty : AllBurn b h → (S : ℕ → Bool) → Stays b h S → Empty b S
  burn_empty all S stays v l = go (S v) refl
    where
      go : (s : Bool) → S v ≡ s → s ≡ false
      go false e = refl
      go true e =
          elim (unburnt_cases all.0 (all.0 v) v (stays_unburnt all.0 all.1 S stays (all.0 v) v l e)) [
            | inl z ↦ absurd (omega (arith, all.2 v l))
            | inr lt ↦ absurd (omega arith)
          ]

  pub empty_burn : ((S : ℕ → Bool) → Stays b h S → Empty b S) → AllBurn b h
  empty_burn none = (round_of b h, rounds_exist, λ v l. some v (none (unburnt (round_of b h) b.sites) (left_stays (round_of b h) rounds_exist) v l))
    where
      some : (v : ℕ) → unburnt (round_of b h) b.sites v ≡ false → 1 ≤ round_of b h v
      some v e =
          elim (ℕ_discrete (round_of b h v) 0) [
            | yes z ↦ absurd (both_ways (unburnt (round_of b h) b.sites v) e (unburnt_never (round_of b h) b.sites v z))
            | no q ↦ omega arith
          ]

  -- from heights that burn nothing can be taken back
  pub burn_no_back : AllBurn b h → (w : ℕ → ℕ) (S : ℕ → Bool) → TakesBack b w h S → Empty b S
  burn_no_back all w S takes = burn_empty all S (λ v l e. (takes v l e).1)
