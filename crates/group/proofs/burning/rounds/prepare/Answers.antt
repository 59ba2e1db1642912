-- What is left to show of `prepare`.
use Rattle.std.proofs.Common.{◌-◌, refl, ◌∙◌, arith, below_more}
use Rattle.board.specs.Walks.{deg_is}
use Rattle.settling.proofs.Queues.{mark_here, mark_there}
use Rattle.group.proofs.burning.rounds.prepare.Goals as goal

pub overflow_sub-number : goal.overflow_sub-number
overflow_sub-number g c = omega (arith, deg_is (g.B.Board.shape c.args.board.now) c.loop-v.v)

pub loop-v-preserved : goal.loop-v-preserved
loop-v-preserved g c =
    let i = c.loop-v.v in
    let y = c.degree.result - c.drain.result in
    below_more _ _ (λ u l. mark_there c.loop-v.rounds i y u (λ e. omega arith) ∙ c.loop-v.invariant u l)
    (mark_here c.loop-v.rounds i y i (omega arith) refl ∙ omega (arith, deg_is (g.B.Board.shape c.args.board.now) i))
