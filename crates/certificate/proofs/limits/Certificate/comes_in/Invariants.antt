-- The loop of `comes_in`: what comes from the sites that it has come by.
use Rattle.std.proofs.Common.{◌≡◌}
use Rattle.firing.specs.Firing.{at}
use Rattle.certificate.proofs.Inflows.{InflowBelow}
use Rattle.certificate.proofs.limits.Certificate.comes_in.Given as goal

abbrev pub invariant-loop-u : goal.invariant-loop-u
invariant-loop-u g l =
    (goal.iterator-loop-u g).can_next l.u-iterator
    × (goal.iterator-loop-u g).is_finite l.u-iterator
    × (l.u-iterator.board.now ≡ l.self.board.now)
    × (l.u-iterator.site ≡ l.v)
    × InflowBelow (g.B.Board.shape l.self.board.now) (at l.self.counts.now) l.v l.u-iterator.from l.sum
