-- What is left to show of `take_first`.
use Rattle.std.proofs.Common.{length, arith}
use Rattle.settling.proofs.Queues.{taken_on, queued_taken}
use Rattle.settling.proofs.waits.take_first.Goals as goal

pub bounds-marks-site_of : goal.bounds-marks-site_of
bounds-marks-site_of g c = omega (arith, (taken_on g.E.Entry.site _ _ _ _ _ c.in_ok-e.ensures.popped c.requires.queued).0, c.site_of.ensures)

pub returns-clause-queued : goal.returns-clause-queued
returns-clause-queued g c =
    queued_taken g.E.Entry.site (length c.args.marks.now) c.site_of.result c.args.mark c.in_ok-e.e _ _ c.args.marks.now c.in_ok-e.ensures.popped c.site_of.ensures c.requires.written (omega arith) c.requires.queued
