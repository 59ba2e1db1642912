-- Entries and their limits.
use Rattle.std.proofs.Common.{ℕ, ◌<◌, ◌≤◌, Bool, true, false, List, length, MatchBool, inl, inr, arith}
use Rattle.std.specs.List.{AllWithin, HoldsAt}
use Rattle.std.proofs.lemmas.List.{get_or_past}
use Rattle.std.proofs.lemmas.Bool.{cases_lt}
use Rattle.certificate.specs.Fits.{Within}
use Rattle.certificate.specs.Verdicts.{Above}

-- what a test of each entry shows
pub within_test : (limit : ℕ) (xs : List ℕ) (t : Bool) → MatchBool t (AllWithin (λ x. x ≤ limit) xs 0 (length xs)) ((k : ℕ) × (k < length xs) × HoldsAt (λ x. limit < x) xs k)
    → MatchBool t (Within limit xs) (Above limit xs)
within_test limit xs true low = λ v. elim (cases_lt v (length xs)) [
  | inl l ↦ low v 0 (omega arith) l
  | inr l ↦ omega (arith, get_or_past xs v 0 l)
]
within_test limit xs false (v, l, over) = (v, over 0)

pub not_above : (limit : ℕ) (xs : List ℕ) → Within limit xs → Above limit xs → ⊥
not_above limit xs low (v, l) = omega (arith, low v)
