-- What is left to show of `Board::degree`.
use Rattle.std.proofs.Common.{arith}
use Rattle.board.specs.Shape.{sum_below}
use Rattle.board.specs.Walks.{deg_is, linked_on, walk_on, walk_le, walk_end}
use Rattle.board.proofs.Board.degree.Goals as goal

pub loop-u-init : goal.loop-u-init
unfolding sum_below
loop-u-init g c = (omega arith, omega arith)

pub overflow_add-sum : goal.overflow_add-sum
overflow_add-sum g c =
    omega (arith, walk_le (g.met.Self.Board.sound c.args.self.now) c.args.v c.loop-u.j c.in-Some.u c.in-Some.ensures)

pub loop-u-preserved : goal.loop-u-preserved
loop-u-preserved g c =
    let ok = g.met.Self.Board.sound c.args.self.now in
    let h = c.in-Some.ensures in (
      omega (arith, linked_on ok c.args.v c.in-Some.u h.linked),
      omega (arith, walk_on ok c.args.v c.loop-u.j c.in-Some.u h),
    )

pub returns : goal.returns
returns g c =
    let b = g.Self.Board.shape c.args.self.now in
    let ok = g.met.Self.Board.sound c.args.self.now in
    omega (arith, deg_is b c.args.v, walk_end ok c.args.v c.loop-u.j c.loop-u.invariant.0 c.in_default.ensures)
