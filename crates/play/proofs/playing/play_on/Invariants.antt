-- The loop of `play_on`: the first i calls are carried out.
use Rattle.std.proofs.Common.{◌≡◌, length, take}
use Rattle.firing.specs.Firing.{at}
use Rattle.bench.specs.States.{state, entries, held}
use Rattle.play.specs.Turns.{place}
use Rattle.play.proofs.Rounds.{Playing}
use Rattle.play.proofs.playing.play_on.Given as goal

abbrev pub invariant-loop-i : goal.invariant-loop-i
invariant-loop-i g l =
    Playing (g.B.Board.shape l.board) l.part (length l.initial.waiting) (length l.initial.bytes) (at (state l.initial.bench).heights) (state l.initial.bench) (entries l.initial.records) (held l.initial.records)
    (take l.i l.calls) (take l.i l.answers) (place (state l.bench) l.held (entries l.records) (held l.records))
    × (l.records.slots.ghost_name ≡ l.initial.records.slots.ghost_name)
