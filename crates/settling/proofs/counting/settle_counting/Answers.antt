-- What is left to show of `settle_counting`.
use Rattle.std.proofs.Common.{rules, ◌≡◌, ℕ, ◌<◌, length, sym, ◌∙◌, arith}
use Rattle.firing.specs.Firing.{at}
use Rattle.settling.proofs.CountingRows.{counting_kept, counting_passed, budget_fits, all_low, some_high}
use Rattle.settling.proofs.counting.settle_counting.Goals as goal

pub returns-in_err-check : goal.returns-in_err-check
returns-in_err-check g c =
    let b = g.B.Board.shape c.args.board.now in
    let sized : length c.args.counts.now ≡ b.sites = omega arith in
    counting_kept b c.args.heights.now c.args.counts.now (length c.args.waiting.now) (length c.args.marks.now) c.args.budget sized c.args.part c.in_err-check.field-0.0 c.from_residual.result c.in_err-check.ensures c.from_residual.ensures.1

pub returns-then-not-low : goal.returns-then-not-low
returns-then-not-low g c =
    let high : (u : ℕ) × (1000000000000 < at c.args.counts.now u) = some_high c.args.counts.now (sym c.all_low-low.ensures ∙ c.if-not-low.true) in
    search rules

pub settle_counted-requires-clause-few : goal.settle_counted-requires-clause-few
settle_counted-requires-clause-few g c = λ u.
    omega (
      arith,
      all_low c.args.counts.now (sym c.all_low-low.ensures ∙ c.if-not-low.false) u,
      budget_fits (g.B.Board.shape c.args.board.now).sites c.args.heights.now (length c.args.waiting.now) (length c.args.marks.now) c.args.budget c.in_ok-check.ensures.0,
    )

pub returns : goal.returns
returns g c =
    let n = (g.B.Board.shape c.args.board.now).sites in
    let sized : length c.args.counts.now ≡ n = omega arith in (
      counting_passed n c.args.heights.now c.args.counts.now (length c.args.waiting.now) (length c.args.marks.now) c.args.budget sized c.in_ok-check.ensures.0
          (all_low c.args.counts.now (sym c.all_low-low.ensures ∙ c.if-not-low.false)),
      c.settle_counted.ensures,
    )
