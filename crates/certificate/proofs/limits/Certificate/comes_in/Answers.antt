-- What is left to show of `comes_in`.
use Rattle.std.proofs.Common.{arith}
use Rattle.std.proofs.lemmas.Grind.{common_steps}
use Rattle.board.specs.Walks.{m_le}
use Rattle.firing.specs.Firing.{at}
use Rattle.certificate.proofs.Inflows.{inflow_none, inflow_more, inflow_all, inflow_low, inflow_fits, sent_low}
use Rattle.certificate.proofs.limits.Certificate.comes_in.Goals as goal

pub loop-u-init : goal.loop-u-init
loop-u-init g c = grind (arith, common_steps, inflow_none (g.B.Board.shape c.args.self.now.board.now) (at c.args.self.now.counts.now) c.args.v)

pub overflow_mul-sum : goal.overflow_mul-sum
overflow_mul-sum g c =
    omega (
      arith,
      sent_low c.from.result (at c.args.self.now.counts.now c.in-Some.u) (omega (arith, m_le (g.met.B.Board.sound c.args.self.now.board.now) c.in-Some.u c.args.v)) (c.args.self.now.fit.low.1 c.in-Some.u),
    )

pub overflow_add-sum : goal.overflow_add-sum
overflow_add-sum g c =
    grind (arith, common_steps, inflow_fits (g.met.B.Board.sound c.args.self.now.board.now) (at c.args.self.now.counts.now) c.args.v 1000000000000 c.loop-u.u-iterator.from c.in-Some.u c.loop-u.sum c.args.self.now.fit.low.1)

pub loop-u-preserved : goal.loop-u-preserved
loop-u-preserved g c =
    grind (arith, common_steps, inflow_more (g.met.B.Board.sound c.args.self.now.board.now) (at c.args.self.now.counts.now) c.args.v)

pub returns : goal.returns
returns g c =
    let ok = g.met.B.Board.sound c.args.self.now.board.now in
    let w = at c.args.self.now.counts.now in
    record {
      is = grind (arith, common_steps, inflow_all ok w c.args.v);
      fits = grind (arith, common_steps, inflow_all ok w c.args.v, inflow_low ok w c.args.v 1000000000000 c.args.self.now.fit.low.1);
    }
