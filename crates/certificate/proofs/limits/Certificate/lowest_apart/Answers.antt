-- What is left to show of `lowest_apart`.
use Rattle.std.proofs.Common.{rules}
use Rattle.std.proofs.iter.runs.Sources.{ranges}
use Rattle.certificate.proofs.limits.Certificate.lowest_apart.Goals as goal

pub returns : goal.returns
returns g c = search (rules, ranges)
