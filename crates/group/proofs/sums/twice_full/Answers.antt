-- What is left to show of `twice_full`.
use Rattle.std.proofs.Common.{arith}
use Rattle.firing.proofs.Reach.{reach_linked}
use Rattle.group.proofs.Grains.{fires_deg}
use Rattle.group.proofs.sums.twice_full.Goals as goal

pub overflow_sub-result : goal.overflow_sub-result
overflow_sub-result g c = omega (arith, reach_linked (g.B.Board.shape c.args.board.now) c.requires.reach c.args.v c.requires.on)

pub returns : goal.returns
returns g c =
    let b = g.B.Board.shape c.args.board.now in
    omega (arith, reach_linked b c.requires.reach c.args.v c.requires.on, fires_deg b c.args.v)
