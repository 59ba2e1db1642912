-- The loop of `search`: each visit raises a mark, and none is above 2.
use Rattle.std.proofs.Common.{◌≡◌, ◌+◌, ◌-◌, length}
use Rattle.board.specs.Shape.{sum_below}
use Rattle.waiting.specs.WaitingLists.{waits}
use Rattle.settling.specs.Searches.{mark, Searching}
use Rattle.settling.proofs.reach.search.Given as goal

abbrev pub invariant-loop-e : goal.invariant-loop-e
invariant-loop-e g l =
    Searching g.E.Entry.site (g.B.Board.shape l.board) (waits l.queue.list) l.queue.marks.now × (length l.queue.marks.now ≡ length l.initial.queue.marks.now)

abbrev pub decreases-loop-e : goal.decreases-loop-e
decreases-loop-e g l =
    let n = (g.B.Board.shape l.board).sites in
    n + n - sum_below n (mark l.queue.marks.now)
