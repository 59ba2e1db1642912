-- The loop of `light`: the sites below u have been held against their heights.
use Rattle.std.proofs.Common.{◌≡◌}
use Rattle.waiting.specs.WaitingLists.{waits}
use Rattle.firing.specs.Firing.{at}
use Rattle.group.specs.Flames.{Lighting}
use Rattle.group.proofs.burning.rounds.Fire.light.Given as goal

abbrev pub invariant-loop-u : goal.invariant-loop-u
invariant-loop-u g l =
    Lighting (g.B.Board.shape l.board) (at l.initial.self.heights.now) l.u (waits l.self.list) l.self.marks.now l.rounds
    × (l.self.heights.now ≡ l.initial.self.heights.now)
