-- The loop of `mark_ready`: the sites below v are marked, and counted.
use Rattle.std.proofs.Common.{◌≡◌, ℕ, ◌<◌, ◌≤◌}
use Rattle.board.specs.Shape.{sum_below}
use Rattle.firing.specs.Firing.{at}
use Rattle.bench.specs.Checks.{ReadyAt}
use Rattle.bench.proofs.firings.mark_ready.Given as goal

abbrev pub invariant-loop-v : goal.invariant-loop-v
invariant-loop-v g l =
    ((u : ℕ) → u < l.v → ReadyAt (g.B.Board.shape l.board) (at l.heights) u (at l.marks u))
    × (l.ready ≡ sum_below l.v (at l.marks))
    × (l.ready ≤ l.v)
