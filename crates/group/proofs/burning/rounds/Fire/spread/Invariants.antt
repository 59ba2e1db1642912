-- The loop of `spread`: each visit raises a mark, and none is above 2.
use Rattle.std.proofs.Common.{◌≡◌, ℕ, ◌+◌, ◌-◌}
use Rattle.board.specs.Shape.{sum_below}
use Rattle.settling.specs.Searches.{mark}
use Rattle.waiting.specs.WaitingLists.{waits}
use Rattle.firing.specs.Firing.{at}
use Rattle.group.specs.Flames.{Steady}
use Rattle.group.proofs.burning.rounds.Fire.spread.Given as goal

abbrev pub invariant-loop-burnt : goal.invariant-loop-burnt
invariant-loop-burnt g l =
    ((r : ℕ) × Steady (g.B.Board.shape l.board) (at l.initial.self.heights.now) r (waits l.self.list) l.self.marks.now l.rounds)
    × (l.self.heights.now ≡ l.initial.self.heights.now)

abbrev pub decreases-loop-burnt : goal.decreases-loop-burnt
decreases-loop-burnt g l =
    let n = (g.B.Board.shape l.board).sites in
    n + n - sum_below n (mark l.self.marks.now)
