-- What is left to show of `settle_counted`.
use Rattle.std.proofs.lemmas.Bool.{lt-ltb}
use Rattle.firing.specs.Firing.{at}
use Rattle.settling.proofs.Going.{ended_still, ended_test}
use Rattle.settling.proofs.settle.settle_counted.Goals as goal

pub returns-then-fired-budget : goal.returns-then-fired-budget
returns-then-fired-budget g c =
    ended_still (g.met.B.Board.sound c.args.board.now) (at c.args.heights.now) (at c.work_off-fired.new.heights) c.args.counts.now c.work_off-fired.new.counts c.args.budget _
    c.work_off-fired.ensures.tallied c.work_off-fired.ensures.within (lt-ltb c.work_off-fired.result c.args.budget c.if-fired-budget.true) (c.work_off-fired.ensures.still c.if-fired-budget.true)

pub returns-else-fired-budget : goal.returns-else-fired-budget
returns-else-fired-budget g c =
    ended_test (g.met.B.Board.sound c.args.board.now) (at c.args.heights.now) (at c.work_off-fired.new.heights) c.args.counts.now c.work_off-fired.new.counts c.args.budget _
    c.work_off-fired.ensures.tallied c.work_off-fired.ensures.within c.lowest_ready.result c.is_none-still.ensures c.if-fired-budget.false c.lowest_ready.ensures
