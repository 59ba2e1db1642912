-- The loop of `narrow`: all that can be taken back is in the set, and fewer looks are left.
use Rattle.std.proofs.Common.{◌≡◌, length}
use Rattle.waiting.specs.WaitingLists.{waits}
use Rattle.firing.specs.Firing.{at}
use Rattle.certificate.specs.Sets.{Narrowing}
use Rattle.certificate.proofs.Leaving.{looks}
use Rattle.certificate.proofs.limits.Certificate.narrow.Given as goal

abbrev pub invariant-loop-v : goal.invariant-loop-v
invariant-loop-v g l =
    let b = g.B.Board.shape l.self.board.now in
    Narrowing b (at l.self.counts.now) (at l.self.end.now) (waits l.queue.list) l.queue.marks.now × (length l.queue.marks.now ≡ length l.initial.queue.marks.now)

abbrev pub decreases-loop-v : goal.decreases-loop-v
decreases-loop-v g l = looks (g.B.Board.shape l.self.board.now).sites (waits l.queue.list) l.queue.marks.now
