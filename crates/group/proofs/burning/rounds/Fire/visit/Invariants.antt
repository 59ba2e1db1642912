-- The loop of `visit`: the links to the sites below j have been taken.
use Rattle.std.proofs.Common.{◌≡◌, ◌-◌}
use Rattle.waiting.specs.WaitingLists.{waits}
use Rattle.firing.specs.Firing.{at}
use Rattle.group.specs.Flames.{Visit, Up}
use Rattle.group.proofs.burning.rounds.Fire.visit.Given as goal

abbrev pub invariant-loop-u : goal.invariant-loop-u
invariant-loop-u g l =
    Visit (g.B.Board.shape l.board) (at l.initial.self.heights.now) l.burnt.round l.burnt.site l.j (waits l.self.list) l.self.marks.now l.rounds
    × Up l.initial.self.marks.now l.self.marks.now
    × (l.self.heights.now ≡ l.initial.self.heights.now)

abbrev pub decreases-loop-u : goal.decreases-loop-u
decreases-loop-u g l = (g.B.Board.shape l.board).sites - l.j
