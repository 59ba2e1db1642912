-- Nothing waits any more: the numbers of burnt sites are the rounds.
use Rattle.std.proofs.Common.{◌≡◌, ℕ, suc, ◌<◌, ◌≤◌, Bool, true, false, List, [], sym, ap, ◌∙◌, inl, inr, arith}
use Rattle.std.proofs.lemmas.Bool.{cases_eq, ltb-true}
use Rattle.board.specs.Shape.{Shape, Sound}
use Rattle.firing.specs.Settling.{Same}
use Rattle.firing.specs.TakingBack.{links_into, AsHigh}
use Rattle.firing.specs.Burning.{unburnt, Rounds, AllBurn}
use Rattle.firing.proofs.Sets.{into_le}
use Rattle.firing.proofs.Rounds.{unburnt_never, unburnt_later, unburnt_cases, high_same, rounds_once}
use Rattle.firing.proofs.Stands.{plain_heights}
use Rattle.settling.specs.Searches.{mark, occurs}
use Rattle.settling.specs.Reaching.{Says}
use Rattle.group.specs.declared.burning.Burnt.{Burnt}
use Rattle.firing.specs.Firing.{at}
use Rattle.group.specs.Flames.{site_of, undone, Steady, Cleared, Ended}
use Rattle.group.proofs.Kindling.{unburnt_same}

module _ (b : Shape) (ok : Sound b) (h : ℕ → ℕ) where
  module _ (r : ℕ) (es : List Burnt) (fs xs : List ℕ) (none : es ≡ []) (S : Steady b h r es fs xs) where
    abbrev ρ : ℕ → ℕ
    ρ = S.burning.rounds

    no_wait : (u : ℕ) → u < b.sites → mark fs u ≡ 1 → ⊥
    no_wait u l m = omega (arith, S.burning.queued.once u l m, ap (occurs site_of u) none)

    left_unburnt : (k u : ℕ) → u < b.sites → undone fs u ≡ true → unburnt ρ k u ≡ true
    left_unburnt k u l t = elim (cases_eq (mark fs u) 0) [
      | inl z ↦ unburnt_never ρ k u (S.burning.right.free u l z)
      | inr nz ↦ absurd (no_wait u l (omega (arith, ltb-true (mark fs u) 2 t)))
    ]

    there : (v : ℕ) → v < b.sites → (k : ℕ) → ρ v ≡ suc k → (unburnt ρ k v ≡ true) × AsHigh b h (unburnt ρ k) v
    there v l k e = (unburnt_later ρ k v (omega arith), (plain_heights b ok h (unburnt ρ k) v).1.1 (S.burning.right.sound v l k e))

    back : (v : ℕ) → v < b.sites → (k : ℕ) → (unburnt ρ k v ≡ true) × AsHigh b h (unburnt ρ k) v → ρ v ≡ suc k
    back v l k p =
        let high : links_into b (unburnt ρ k) v ≤ h v = (plain_heights b ok h (unburnt ρ k) v).1.0 p.1 in
        elim (cases_eq (mark fs v) 0) [
          | inl z ↦ absurd (omega (arith, (S.cool v l).count z, (S.cool v l).low z, into_le b (undone fs) (unburnt ρ k) (left_unburnt k) v))
          | inr nz ↦ elim (unburnt_cases ρ k v p.0) [
            | inl zero-round ↦ absurd (omega (arith, S.burning.right.some v l (omega arith)))
            | inr after ↦ elim (cases_eq (ρ v) (suc k)) [
              | inl same ↦ same
              | inr apart ↦ absurd (omega (arith, S.burning.right.late v l k (omega arith)))
            ]
          ]
        ]

    pub ended : Ended b h fs xs
    ended = record {
      rounds = ρ;
      are = λ v l k. (there v l k, back v l k);
      free = S.burning.right.free;
      some = S.burning.right.some;
      kept = S.burning.kept;
    }

  rounds_same : (r r' : ℕ → ℕ) → Same b r r' → Rounds b h r → Rounds b h r'
  rounds_same r r' same R v l k = (
    λ e. let p = (R v l k).0 (same v l ∙ e) in (
      sym (unburnt_same r r' k v (same v l)) ∙ p.0,
      high_same b h (unburnt r k) (unburnt r' k) (λ u on. unburnt_same r r' k u (same u on)) v p.1,
    ),
    λ p. sym (same v l) ∙ (R v l k).1 (
      unburnt_same r r' k v (same v l) ∙ p.0,
      high_same b h (unburnt r' k) (unburnt r k) (λ u on. sym (unburnt_same r r' k u (same u on))) v p.1,
    ),
  )

  module _ (fs xs xs' : List ℕ) (E : Ended b h fs xs) (C : Cleared b.sites fs xs xs') where
    cleared_same : Same b E.rounds (at xs')
    cleared_same u l = elim (cases_eq (mark fs u) 0) [
      | inl z ↦ E.free u l z ∙ sym (C.zero_at u l z)
      | inr nz ↦ sym (C.kept u l (omega arith) ∙ E.kept u l (omega arith))
    ]

    pub cleared_rounds : Rounds b h (at xs')
    cleared_rounds = rounds_same E.rounds (at xs') cleared_same E.are

    all_marked : AllBurn b h → (u : ℕ) → u < b.sites → 1 ≤ mark fs u
    all_marked all u l = elim (cases_eq (mark fs u) 0) [
      | inl z ↦ absurd (omega (arith, all.2 u l, rounds_once b h all.0 (at xs') all.1 cleared_rounds u l, C.zero_at u l z))
      | inr nz ↦ omega arith
    ]

    pub cleared_says : (t : Bool) → Says t ((u : ℕ) → u < b.sites → 1 ≤ mark fs u) → Says t (AllBurn b h)
    cleared_says true all = (E.rounds, E.are, λ v l. E.some v l (all v l))
    cleared_says false not-all = λ all. not-all (all_marked all)
