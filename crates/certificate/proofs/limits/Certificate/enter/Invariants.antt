-- The loop of `enter`: the sites that it has come by and that have fired wait, and no other is in the set.
use Rattle.std.proofs.Common.{◌≡◌, length}
use Rattle.waiting.specs.WaitingLists.{waits}
use Rattle.firing.specs.Firing.{at}
use Rattle.certificate.proofs.Entering.{Entered}
use Rattle.certificate.proofs.limits.Certificate.enter.Given as goal

abbrev pub invariant-loop-v : goal.invariant-loop-v
invariant-loop-v g l =
    let n = (g.B.Board.shape l.self.board.now).sites in
    Entered n l.v (at l.self.counts.now) (waits l.queue.list) l.queue.marks.now × (length l.queue.marks.now ≡ n)
