-- What is left to show of `sum`.
use Rattle.std.proofs.Common.{arith}
use Rattle.firing.specs.Firing.{at}
use Rattle.group.proofs.Grains.{low_pair, fires_le}
use Rattle.group.proofs.Rows.{fit, sum_settled}
use Rattle.group.proofs.sums.sum.Goals as goal

pub add-requires-clause-low : goal.add-requires-clause-low
add-requires-clause-low g c =
    let b = g.B.Board.shape c.args.board.now in
    let ok = g.met.B.Board.sound c.args.board.now in
    let r = c.in_ok-check.ensures in
    let both = c.in_default.ensures in
    λ v l. omega (arith, low_pair b ok r.reach (at c.args.a.now) (at c.args.b.now) both.0 both.1 v (omega (arith, r.sized)), fires_le b ok r.reach v)

pub settle_within-requires-clause-fit : goal.settle_within-requires-clause-fit
settle_within-requires-clause-fit g c =
    let b = g.B.Board.shape c.args.board.now in
    let ok = g.met.B.Board.sound c.args.board.now in
    let r = c.in_ok-check.ensures in
    let both = c.in_default.ensures in
    fit c.args.answer.now r ok c.add.new.answer _ _ (omega arith) (omega arith) (omega arith) (λ v l. omega (arith, c.add.ensures v (omega (arith, r.sized)), low_pair b ok r.reach (at c.args.a.now) (at c.args.b.now) both.0 both.1 v l))

pub returns : goal.returns
returns g c =
    let r = c.in_ok-check.ensures in
    let both = c.in_default.ensures in
    sum_settled c.args.answer.now r c.args.a.now c.args.b.now (omega arith) (omega arith) both.0 both.1 c.add.new.answer c.settle_within.new.heights (λ v l. c.add.ensures v (omega (arith, r.sized))) c.settle_within.result c.settle_within.ensures
