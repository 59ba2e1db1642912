-- What is left to show of `follows_at`.
use Rattle.std.proofs.Common.{arith}
use Rattle.board.specs.Walks.{deg_le}
use Rattle.firing.specs.Firing.{at}
use Rattle.certificate.proofs.Inflows.{sent_low}
use Rattle.certificate.proofs.limits.Certificate.follows_at.Goals as goal

pub overflow_mul-given : goal.overflow_mul-given
overflow_mul-given g c =
    omega (
      arith,
      sent_low c.from.result (at c.args.self.now.counts.now c.args.v) (omega (arith, deg_le (g.met.B.Board.sound c.args.self.now.board.now) c.args.v)) (c.args.self.now.fit.low.1 c.args.v),
    )

pub overflow_add-result : goal.overflow_add-result
overflow_add-result g c =
    omega (
      arith,
      c.args.self.now.fit.low.2 c.args.v,
      sent_low c.from.result (at c.args.self.now.counts.now c.args.v) (omega (arith, deg_le (g.met.B.Board.sound c.args.self.now.board.now) c.args.v)) (c.args.self.now.fit.low.1 c.args.v),
    )
