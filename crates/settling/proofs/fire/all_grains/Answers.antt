-- What is left to show of `all_grains`.
use Rattle.std.proofs.Common.{◌+◌, length, arith}
use Rattle.board.specs.Shape.{sum_below}
use Rattle.board.specs.Sums.{sum_suc, sum_more}
use Rattle.firing.specs.Firing.{at}
use Rattle.settling.proofs.fire.all_grains.Goals as goal

pub loop-h-init : goal.loop-h-init
unfolding sum_below
loop-h-init c = (omega arith, omega arith)

pub returns-then-h-limit : goal.returns-then-h-limit
returns-then-h-limit c =
    let xs = c.args.heights.now in
    omega (arith, sum_suc c.loop-h.h-index (at xs), sum_more (c.loop-h.h-index + 1) (length xs) (at xs) (omega arith))

pub loop-h-preserved : goal.loop-h-preserved
loop-h-preserved c = (omega (arith, sum_suc c.loop-h.h-index (at c.args.heights.now)), omega arith)
