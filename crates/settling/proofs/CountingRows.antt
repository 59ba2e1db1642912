-- The checks of settling with counts, by those of settling.
use Rattle.std.proofs.Common.{◌≡◌, ℕ, suc, ◌<◌, ◌≤◌, true, false, ◌&&◌, nat_le, List, [], ◌∷◌, length, Result, Ok, Err, sym, refl, ap, ◌∙◌, subst, inl, inr, arith}
use Rattle.std.specs.List.{list_all}
use Rattle.std.proofs.lemmas.Bool.{cases_lt, true≢false, le-leb, lt-leb}
use Rattle.std.proofs.lemmas.List.{get_or_past}
use Rattle.std.proofs.lemmas.List.Folds.{list_all_at}
use Rattle.firing.specs.Firing.{at}
use Rattle.std.specs.Result.{IsErrAnd}
use Rattle.board.specs.Shape.{Shape}
use Rattle.settling.specs.declared.settle.Outcome.{Outcome}
use Rattle.refusal.specs.declared.Part.{Part}
use Rattle.refusal.specs.declared.Refusal.{Refusal}
use Rattle.refusal.specs.Table.{Passed, Refused}
use Rattle.settling.specs.Settlings.{settle_checks, count_checks, SettledCounting}

module _ (n : ℕ) (xs cs : List ℕ) (slots bytes budget : ℕ) (sized : length cs ≡ n) where
  pub counting_refused : (part : Part) (e : Refusal) → Refused (settle_checks n xs slots bytes budget) part e → Refused (count_checks n xs cs slots bytes budget) part e
  counting_refused part e r = record {
    by = elim r.by [
      | inl m ↦ inl (m.0, (m.1.0, inr m.1.1))
      | inr m ↦ inr (
        λ p f. elim f.1 [ inl ne ↦ ne sized | inr k ↦ m.0 p (f.0, k) ],
        elim m.1 [ inl l ↦ inl (l.0, (l.1.0, inr l.1.1)) | inr l ↦ absurd l.1 ],
      )
    ];
    from = r.from;
  }

  pub counting_passed : Passed (settle_checks n xs slots bytes budget) → ((u : ℕ) → at cs u ≤ 1000000000000) → Passed (count_checks n xs cs slots bytes budget)
  counting_passed s low = (
    λ p w. elim w.1 [ inl ne ↦ ne sized | inr m ↦ s.0 p (w.0, m) ],
    (λ p w. elim w.1 [ inl high ↦ omega (arith, low high.0, high.1) | inr m ↦ s.1.0 p (w.0, m) ], tt),
  )

-- a budget that was not refused
pub budget_fits : (n : ℕ) (xs : List ℕ) (slots bytes budget : ℕ) → Passed (settle_checks n xs slots bytes budget) → budget ≤ 1000000000
budget_fits n xs slots bytes budget s = elim (cases_lt 1000000000 budget) [
  | inl over ↦ absurd (s.1.0 0 (refl, inl (inr over)))
  | inr within ↦ within
]

-- a refusal of settling is passed on
pub counting_kept : (b : Shape) (xs cs : List ℕ) (slots bytes budget : ℕ) → length cs ≡ b.sites → (part : Part) (e : Refusal) (r : Result Outcome Refusal) → Refused (settle_checks b.sites xs slots bytes budget) part e
    → IsErrAnd r (λ f. f ≡ e) → SettledCounting b xs xs cs cs slots bytes budget part r
counting_kept b xs cs slots bytes budget sized part e (Ok o) r k = absurd k
counting_kept b xs cs slots bytes budget sized part e (Err f) r k =
    (subst (λ x. Refused (count_checks b.sites xs cs slots bytes budget) part x) (sym k) (counting_refused b.sites xs cs slots bytes budget sized part e r), refl, refl)

-- the test of every count: none is too high
pub all_low : (cs : List ℕ) → list_all (λ c. nat_le c 1000000000000) cs ≡ true → (u : ℕ) → at cs u ≤ 1000000000000
all_low cs e u = elim (cases_lt 1000000000000 (at cs u)) [
  | inl high ↦ elim (cases_lt u (length cs)) [
    | inl on ↦ absurd (true≢false (sym e ∙ list_all_at (λ c. nat_le c 1000000000000) cs u 0 on (lt-leb (at cs u) 1000000000000 high)))
    | inr past ↦ omega (arith, get_or_past cs u 0 past)
  ]
  | inr low ↦ low
]

-- or some is
pub some_high : (cs : List ℕ) → list_all (λ c. nat_le c 1000000000000) cs ≡ false → (u : ℕ) × (1000000000000 < at cs u)
some_high [] e = absurd (true≢false e)
some_high (c ∷ cs) e = elim (cases_lt 1000000000000 c) [
  | inl high ↦ (0, high)
  | inr low ↦
      let rest = some_high cs (sym (ap (λ t. t && list_all (λ x. nat_le x 1000000000000) cs) (le-leb c 1000000000000 low)) ∙ e) in
      (suc rest.0, rest.1)
]
