-- What is left to show of `links_into`.
use Rattle.std.proofs.Common.{rules}
use Rattle.certificate.proofs.Leaving.{into_walk}
use Rattle.certificate.proofs.back.links_into.Goals as goal

pub loop-u-init : goal.loop-u-init
loop-u-init g c = search (rules, into_walk)

pub overflow_add-sum : goal.overflow_add-sum
overflow_add-sum g c = search (rules, into_walk)

pub loop-u-preserved-then-bytes-u-ne-OUT : goal.loop-u-preserved-then-bytes-u-ne-OUT
loop-u-preserved-then-bytes-u-ne-OUT g c = search (rules, into_walk)

pub loop-u-preserved : goal.loop-u-preserved
loop-u-preserved g c = search (rules, into_walk)

pub returns : goal.returns
returns g c = search (rules, into_walk)
