-- The loop of `prepare`: below v each number is the links to all sites.
use Rattle.std.proofs.Common.{◌≡◌, ℕ, ◌<◌}
use Rattle.board.specs.Shape.{row_total}
use Rattle.firing.specs.Firing.{at}
use Rattle.group.proofs.burning.rounds.prepare.Given as goal

abbrev pub invariant-loop-v : goal.invariant-loop-v
invariant-loop-v g l = (u : ℕ) → u < l.v → at l.rounds u ≡ row_total (g.B.Board.shape l.board) u
