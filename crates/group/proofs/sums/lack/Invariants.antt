-- The loop of `lack`: below v stands what the heights lack of 2M, and from v on the heights as they were.
use Rattle.std.proofs.Common.{◌≡◌, ℕ, ◌+◌, ◌*◌, ◌<◌, ◌≤◌}
use Rattle.firing.specs.Firing.{at, fires_from}
use Rattle.group.proofs.sums.lack.Given as goal

abbrev pub invariant-loop-v : goal.invariant-loop-v
invariant-loop-v g l =
    ((u : ℕ) → u < l.v → at l.answer u + at l.initial.answer u + 2 ≡ 2 * fires_from (g.B.Board.shape l.board) u) × ((u : ℕ) → l.v ≤ u → at l.answer u ≡ at l.initial.answer u)
