-- The loop of `fill`: below v stands 2M.
use Rattle.std.proofs.Common.{◌≡◌, ℕ, ◌+◌, ◌*◌, ◌<◌}
use Rattle.firing.specs.Firing.{at, fires_from}
use Rattle.group.proofs.sums.fill.Given as goal

abbrev pub invariant-loop-v : goal.invariant-loop-v
invariant-loop-v g l = (u : ℕ) → u < l.v → at l.answer u + 2 ≡ 2 * fires_from (g.B.Board.shape l.board) u
