-- What is left to show of `identity`.
use Rattle.std.proofs.Common.{arith}
use Rattle.std.proofs.lemmas.Result.{err_from_is_err_and}
use Rattle.group.proofs.Rows.{fit, identity_first, identity_second}
use Rattle.group.proofs.sums.identity.Goals as goal

pub settle_within-requires-clause-fit : goal.settle_within-requires-clause-fit
settle_within-requires-clause-fit g c =
    fit c.args.answer.now c.in_ok-check.ensures (g.met.B.Board.sound c.args.board.now) c.fill.new.answer _ _ (omega arith) (omega arith) (omega arith) (λ v l. omega (arith, c.fill.ensures v l))

pub returns-in_err-settle_within : goal.returns-in_err-settle_within
returns-in_err-settle_within g c =
    let p = err_from_is_err_and c.from_residual-in_err-settle_within.result c.from_residual-in_err-settle_within.ensures.1 in
    rw (p.1, p.2) (identity_first c.args.answer.now c.in_ok-check.ensures (g.met.B.Board.sound c.args.board.now) c.fill.new.answer c.fill.ensures c.settle_within.new.heights c.in_err-settle_within.field-0.0 c.in_err-settle_within.ensures)

pub settle_within-requires-2-clause-fit : goal.settle_within-requires-2-clause-fit
settle_within-requires-2-clause-fit g c =
    fit c.args.answer.now c.in_ok-check.ensures (g.met.B.Board.sound c.args.board.now) c.lack.new.answer _ _ (omega arith) (omega arith) (omega arith) (λ v l. omega (arith, c.lack.ensures v l))

pub returns : goal.returns
returns g c =
    identity_second c.args.answer.now c.in_ok-check.ensures (g.met.B.Board.sound c.args.board.now) c.fill.new.answer c.fill.ensures c.settle_within.new.heights c.lack.new.answer c.settle_within-2.new.heights c.in_ok-settle_within.ensures c.lack.ensures c.settle_within-2.result c.settle_within-2.ensures
