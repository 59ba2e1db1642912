-- The loop of `links_into`: the links into the set to the sites that it has come by.
use Rattle.std.proofs.Common.{◌≡◌}
use Rattle.certificate.proofs.Leaving.{IntoBelow}
use Rattle.certificate.proofs.back.links_into.Given as goal

abbrev pub invariant-loop-u : goal.invariant-loop-u
invariant-loop-u g l =
    (goal.iterator-loop-u g).can_next l.u-iterator
    × (goal.iterator-loop-u g).is_finite l.u-iterator
    × (l.u-iterator.board.now ≡ l.board)
    × (l.u-iterator.site ≡ l.v)
    × IntoBelow (g.B.Board.shape l.board) l.bytes l.v l.u-iterator.from l.sum
