-- The loop of `is_light_near`: the sites that it has come by are not above 1,000,000.
use Rattle.std.proofs.Common.{◌≡◌, ℕ, ◌<◌, ◌≤◌}
use Rattle.firing.specs.Firing.{at}
use Rattle.settling.proofs.near.is_light_near.Given as goal

abbrev pub invariant-loop-u : goal.invariant-loop-u
invariant-loop-u g l =
    (goal.iterator-loop-u g).can_next l.u-iterator
    × (goal.iterator-loop-u g).is_finite l.u-iterator
    × (l.u-iterator.board.now ≡ l.board)
    × (l.u-iterator.site ≡ l.v)
    × ((u : ℕ) → u < l.u-iterator.from → 0 < (g.B.Board.shape l.board).m l.v u → at l.heights u ≤ 1000000)
