-- What is left to show of `verdict_is_decided`.
use Rattle.certificate.proofs.Deciding.{one_verdict}
use Rattle.certificate.proofs.verdict_is_decided.Goals as goal

pub returns : goal.returns
returns c = one_verdict
