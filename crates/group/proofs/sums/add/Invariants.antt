-- The loop of `add`: below v the heights are added.
use Rattle.std.proofs.Common.{◌≡◌, ℕ, ◌+◌, ◌<◌}
use Rattle.firing.specs.Firing.{at}
use Rattle.group.proofs.sums.add.Given as goal

abbrev pub invariant-loop-v : goal.invariant-loop-v
invariant-loop-v l = (u : ℕ) → u < l.v → at l.answer u ≡ at l.a u + at l.b u
