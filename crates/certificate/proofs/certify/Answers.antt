-- What is left to show of `certify`.
use Rattle.std.proofs.Common.{length, Err}
use Rattle.std.proofs.lemmas.Result.{err_from_is_err_and}
use Rattle.certificate.proofs.Judging.{judged}
use Rattle.certificate.proofs.certify.Goals as goal

pub returns-in_err-given-clause-least : goal.returns-in_err-given-clause-least
returns-in_err-given-clause-least g c =
    let p = err_from_is_err_and c.from_residual.result c.from_residual.ensures.1 in
    rw (p.1, p.2)
    (judged (g.B.Board.shape c.args.board.now) (g.met.B.Board.sound c.args.board.now) c.args.start.now c.args.counts.now c.args.end.now (length c.args.waiting.now) (length c.args.bytes.now)
    (Err c.in_err-given.field-0.0) c.in_err-given.ensures.refused)

pub returns-clause-least : goal.returns-clause-least
returns-clause-least g c =
    let same = c.in_ok-given.ensures.given in
    judged (g.B.Board.shape c.args.board.now) (g.met.B.Board.sound c.args.board.now) c.args.start.now c.args.counts.now c.args.end.now (length c.args.waiting.now) (length c.args.bytes.now)
    c.judge.result (rw (same.0, same.1, same.2, same.3) at c.judge.ensures)
