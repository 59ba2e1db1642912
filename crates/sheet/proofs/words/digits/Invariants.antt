use Rattle.sheet.proofs.Decimals.{Read}
use Rattle.sheet.proofs.words.digits.Given as goal

abbrev pub invariant-loop-b : goal.invariant-loop-b
invariant-loop-b l = Read l.word l.b-index l.n
