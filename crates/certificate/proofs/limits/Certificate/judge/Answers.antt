-- What is left to show of `judge`.
use Rattle.std.proofs.Common.{length, subst}
use Rattle.settling.specs.Reaching.{LowestAstray}
use Rattle.certificate.proofs.Judging.{accepted}
use Rattle.certificate.proofs.limits.Certificate.judge.Goals as goal

pub returns : goal.returns
returns g c =
    let b = g.B.Board.shape c.args.self.now.board.now in
    accepted b c.args.self.now.start.now c.args.self.now.counts.now c.args.self.now.end.now (length c.args.waiting.now) (length c.args.bytes.now) c.args.self.now.fit c.requires.waiting c.requires.bytes
    (subst (LowestAstray b) c.in_default.is c.in_ok-v.ensures.1) c.in_default-lowest_apart.ensures c.in_default-lowest_ready.ensures c.in_default-lowest_back.ensures
