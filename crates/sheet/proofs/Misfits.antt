-- Words that fail their places, one place after another.
use Rattle.std.proofs.Common.{ℕ, ◌≤◌, leb, List, [], ◌∷◌, length, drop, sym, refl, ◌∙◌, subst, inr}
use Rattle.std.proofs.lemmas.Bool.{cond-true, le-leb}
use Rattle.sheet.specs.Parts.{ahead}
use Rattle.sheet.specs.declared.reader.Reader.{Reader}
use Rattle.sheet.specs.Letters.{Slot, number, Misfit, amount}
use Rattle.sheet.specs.Reading.{words_ahead, Took}
use Rattle.sheet.proofs.Cuts.{parts_some}

-- a word is left, so a line that wants none fails there
pub misfit_surplus : (s : List ℕ) (at c : ℕ) → at ≤ length s → Misfit c [] (ahead 32 s at) c
misfit_surplus s at c le =
    let some = parts_some 32 (drop at s) in
    subst (λ ws. Misfit c [] ws c) (sym (cond-true (leb at (length s)) _ _ (le-leb at (length s) le) ∙ some.2)) refl

-- behind a number that was taken, the words fail where the rest does
pub misfit_behind : {r q : Reader} (n : ℕ) (ts : List Slot) (x : ℕ) → Took r q (amount n) → Misfit q.column ts (words_ahead q) x → Misfit r.column (number ∷ ts) (words_ahead r) x
misfit_behind {r} {q} n ts x took m =
    subst (λ ws. Misfit r.column (number ∷ ts) ws x) (sym took.ahead) (inr (took.says.0, subst (λ c. Misfit c ts (words_ahead q) x) took.moved m))
