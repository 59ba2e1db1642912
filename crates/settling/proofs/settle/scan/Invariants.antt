-- The loop of `scan`: the sites below v that can fire wait, and no other.
use Rattle.std.proofs.Common.{◌≡◌, length}
use Rattle.firing.specs.Firing.{CanFire}
use Rattle.waiting.specs.WaitingLists.{waits}
use Rattle.firing.specs.Firing.{at}
use Rattle.settling.proofs.Marking.{Scanned}
use Rattle.settling.proofs.settle.scan.Given as goal

abbrev pub invariant-loop-v : goal.invariant-loop-v
invariant-loop-v g l =
    let b = g.B.Board.shape l.board in
    Scanned (CanFire b (at l.heights)) b.sites l.v (waits l.queue.list) l.queue.marks.now
    × (length l.queue.marks.now ≡ b.sites)
