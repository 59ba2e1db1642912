-- The loop of `from_drain`: of the sites below, those linked to the drain are found, and no others.
use Rattle.std.proofs.Common.{◌≡◌, length}
use Rattle.waiting.specs.WaitingLists.{waits}
use Rattle.settling.proofs.Searching.{Seeded}
use Rattle.settling.proofs.reach.from_drain.Given as goal

abbrev pub invariant-loop-v : goal.invariant-loop-v
invariant-loop-v g l =
    Seeded g.E.Entry.site (g.B.Board.shape l.board) l.v (waits l.queue.list) l.queue.marks.now × (length l.queue.marks.now ≡ length l.initial.queue.marks.now)
