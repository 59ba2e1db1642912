-- What is left to show of `fire_light`.
use Rattle.std.proofs.Common.{arith}
use Rattle.firing.specs.Firing.{at}
use Rattle.settling.proofs.Ready.{can_enough}
use Rattle.settling.proofs.fire.fire_light.Goals as goal

pub fire_times-requires-clause-has : goal.fire_times-requires-clause-has
fire_times-requires-clause-has g c =
    let some = can_enough (g.B.Board.shape c.args.board.now) (at c.args.heights.now) c.args.v c.if-not-can_fire.ensures in
    omega (arith, c.from.ensures, c.degree.ensures)
