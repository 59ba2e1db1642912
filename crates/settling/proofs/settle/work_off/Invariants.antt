-- The loop of `work_off`: what settling keeps, and what falls with each visit.
use Rattle.std.proofs.Common.{◌≡◌, ◌+◌, ◌-◌, ◌*◌, length}
use Rattle.waiting.specs.WaitingLists.{waits}
use Rattle.firing.specs.Firing.{at}
use Rattle.settling.proofs.Going.{Going}
use Rattle.settling.proofs.settle.work_off.Given as goal

abbrev pub invariant-loop-fired : goal.invariant-loop-fired
invariant-loop-fired g l =
    let b = g.B.Board.shape l.board in
    Going b (at l.initial.heights) l.initial.counts l.counts l.heights (waits l.queue.list) l.queue.marks.now l.fired l.limit
    × (length l.queue.marks.now ≡ b.sites)

abbrev pub decreases-loop-fired : goal.decreases-loop-fired
decreases-loop-fired g l = (l.limit - l.fired) * ((g.B.Board.shape l.board).sites + 1) + length (waits l.queue.list)
