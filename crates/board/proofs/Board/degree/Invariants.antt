-- The loop of `Board::degree`: what it keeps, and what falls with each turn.
use Rattle.std.proofs.Common.{◌≡◌, ◌+◌, ◌-◌, ◌≤◌}
use Rattle.board.specs.Shape.{sum_below}
use Rattle.board.proofs.Board.degree.Given as goal

abbrev pub invariant-loop-u : goal.invariant-loop-u
invariant-loop-u g l =
    let b = g.Self.Board.shape l.self in
    (l.j ≤ b.sites) × (l.sum ≡ b.s l.v + sum_below l.j (b.m l.v))

abbrev pub decreases-loop-u : goal.decreases-loop-u
decreases-loop-u g l = (g.Self.Board.shape l.self).sites - l.j
