use Rattle.std.proofs.Common.{◌≡◌, ◌+◌, ◌-◌, ◌≤◌, List, length}
use Rattle.sheet.specs.declared.Line.{Line}
use Rattle.sheet.proofs.Verdicts.{Come}
use Rattle.sheet.proofs.form.check_form.Given as goal

abbrev pub invariant-loop-line : goal.invariant-loop-line
invariant-loop-line l = (done : List Line) × Come l.sheet l.walk.0 l.walk.1.0 done × (l.count ≡ length done) × (l.walk.0.line ≤ l.walk.0.at + 1)

abbrev pub decreases-loop-line : goal.decreases-loop-line
decreases-loop-line l = length l.sheet + 1 - l.walk.0.at
