-- The loop of `fire_marked`: a wave that has come to v.
use Rattle.firing.specs.Firing.{at}
use Rattle.bench.specs.Waves.{Waving}
use Rattle.bench.proofs.firings.fire_marked.Given as goal

abbrev pub invariant-loop-v : goal.invariant-loop-v
invariant-loop-v g l = Waving (g.B.Board.shape l.board) (at l.initial.heights) l.initial.counts (at l.marks) l.v l.heights l.counts l.drained
