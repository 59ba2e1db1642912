-- What is left to show of `mark_ready`.
use Rattle.std.proofs.Common.{refl, arith}
use Rattle.board.specs.Shape.{sum_below}
use Rattle.firing.specs.Firing.{at}
use Rattle.bench.proofs.Waving.{marked_more}
use Rattle.bench.proofs.firings.mark_ready.Goals as goal

pub loop-v-init : goal.loop-v-init
unfolding sum_below
loop-v-init g c = (λ u l. absurd (omega arith), refl, omega arith)

pub loop-v-preserved : goal.loop-v-preserved
loop-v-preserved g c =
    rw c.from-ready.ensures (marked_more (g.B.Board.shape c.args.board.now) (at c.args.heights.now) c.loop-v.marks c.loop-v.v c.from.result c.loop-v.ready c.can_fire.result (omega arith) c.can_fire.ensures c.from.ensures c.loop-v.invariant)
