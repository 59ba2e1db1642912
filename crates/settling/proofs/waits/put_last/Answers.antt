-- What is left to show of `put_last`.
use Rattle.std.proofs.Common.{length, refl, arith}
use Rattle.settling.proofs.Waited.{waited_queued}
use Rattle.settling.proofs.waits.put_last.Goals as goal

pub returns-clause-queued : goal.returns-clause-queued
returns-clause-queued g c =
    waited_queued g.E.Entry.site (length c.args.marks.now) _ c.args.v c.of_site.result c.args.list.now c.push-pushed.new.self c.push-pushed.result c.args.marks.now c.of_site.ensures refl c.push-pushed.ensures.pushed
    (omega arith) (omega arith) (omega arith) c.requires.rests c.requires.queued
