-- What is left to show of `record`.
use Rattle.std.proofs.Common.{◌-◌, cond, ltb, sum, count_by, vec_items, refl, ap, ◌∙◌, arith}
use Rattle.std.specs.List.{zip}
use Rattle.board.specs.Shape.{sum_below}
use Rattle.firing.specs.Firing.{at}
use Rattle.bench.proofs.Sums.{opened_few, since_sum, above_is}
use Rattle.bench.proofs.Bench.record.Goals as goal

pub total-requires : goal.total-requires
total-requires c = let b = c.args.self.now in omega (arith, opened_few b, ap sum c.deref.ensures.value, b.under, b.most)

pub overflow_sub-result : goal.overflow_sub-result
overflow_sub-result c = let b = c.args.self.now in omega (arith, opened_few b, ap sum c.deref.ensures.value, c.total.ensures)

pub returns : goal.returns
returns c =
    let b = c.args.self.now in
    let cs = vec_items b.counts in
    let os = vec_items b.opened in
    record {
      number = refl;
      dropped = refl;
      size = omega (arith, since_sum b, c.total.ensures, ap sum c.deref.ensures.value);
      area =
          c.area_since.ensures
          ∙ ap (λ xs. count_by (λ p. ltb p.1 p.0) (zip xs c.deref-3.result.now)) c.deref-2.ensures.value
          ∙ ap (λ xs. count_by (λ p. ltb p.1 p.0) (zip cs xs)) c.deref-3.ensures.value
          ∙ above_is cs os (omega (arith, b.counts.ok.0, b.opened.ok.0, b.counts_sized, b.opened_sized))
          ∙ ap (λ n. sum_below n (λ v. cond (ltb 0 (at cs v - at os v)) 1 0)) (omega (arith, b.counts.ok.0, b.heights.ok.0, b.counts_sized));
      drained = omega (arith, b.earlier);
    }
