-- What is left to show of `drop_grains`.
use Rattle.std.proofs.Common.{◌≡◌, ◌+◌, ◌<◌, ◌∷◌, length, set, Some, vec_items, sym, refl, ap, ◌∙◌, subst, inl, inr, arith, length-set}
use Rattle.std.proofs.lemmas.List.{get_or_read}
use Rattle.board.specs.Shape.{sum_below}
use Rattle.board.specs.Sums.{sum_term}
use Rattle.firing.specs.Firing.{at}
use Rattle.bench.specs.declared.phases.Event.TheVariants.{Drop}
use Rattle.bench.specs.States.{State, state, dropped}
use Rattle.bench.specs.Avalanches.{Law}
use Rattle.bench.proofs.Keeping.{law_dropped}
use Rattle.bench.proofs.Steps.{after_drop, some_none, set_total}
use Rattle.bench.proofs.Bench.drop_grains.Goals as goal

pub overflow_add-index_mut : goal.overflow_add-index_mut
overflow_add-index_mut g c =
    let b = c.args.self.now in
    let on : c.args.drop.site < length (vec_items b.heights) = omega (arith, b.heights.ok.0) in
    omega (
      arith,
      get_or_read (vec_items b.heights) c.args.drop.site c.index_mut.result.now on c.index_mut.ensures.value 0,
      sum_term b.heights.len c.args.drop.site (at (vec_items b.heights)) (omega arith),
      b.conserved,
      b.light,
    )

pub invariant_of-self-2 : goal.invariant_of-self-2
invariant_of-self-2 g c =
    let b = c.args.self.now in
    let on : c.args.drop.site < length (vec_items b.heights) = omega (arith, b.heights.ok.0) in
    let read = get_or_read (vec_items b.heights) c.args.drop.site c.index_mut.result.now on c.index_mut.ensures.value 0 in
    let more = set_total b.heights.len (vec_items b.heights) c.args.drop.site (c.index_mut.result.now + c.args.drop.grains) c.args.drop.grains (omega arith) (omega (arith, b.heights.ok.0)) (ap (λ k. k + c.args.drop.grains) read) in
    let copied = c.copy_from_slice.ensures.items ∙ c.deref.ensures.value in
    record {
      counts_sized = b.counts_sized;
      opened_sized = omega (arith, c.copy_from_slice.ensures.len, b.opened_sized);
      conserved = omega (arith, more, b.conserved);
      light = omega arith;
      counted = b.counted;
      under = b.under;
      most = b.most;
      grown = λ u. omega (arith, ap (λ xs. at xs u) copied);
      earlier = omega arith;
      numbered = omega (arith, b.numbered);
    }

pub returns : goal.returns
returns g c =
    let b = c.args.self.now in
    let s = g.B.Board.shape c.args.board.now in
    let d = c.args.drop in
    let sized : length (vec_items b.heights) ≡ s.sites = c.in_ok-fits.ensures in
    let next = after_drop b.phase c.in_ok-next.next c.in_ok-next.ensures in
    let on : d.site < length (vec_items b.heights) = omega (arith, b.heights.ok.0) in
    let read = get_or_read (vec_items b.heights) d.site c.index_mut.result.now on c.index_mut.ensures.value 0 in
    let more = set_total b.heights.len (vec_items b.heights) d.site (c.index_mut.result.now + d.grains) d.grains (omega arith) (omega (arith, b.heights.ok.0)) (ap (λ k. k + d.grains) read) in
    let y : State = record {
      heights = set (vec_items b.heights) d.site (c.index_mut.result.now + d.grains);
      counts = vec_items b.counts;
      opened = vec_items c.copy_from_slice.new.self;
      phase = c.in_ok-next.next;
      number = b.number + 1;
      last = Some d;
      grains = b.grains + d.grains;
      drained = b.drained;
      drained_before = b.drained;
      fired = b.fired;
      ceiling = b.ceiling;
    } in
    let same : y ≡ dropped (state b) d = cc (read, next.1, c.copy_from_slice.ensures.items ∙ c.deref.ensures.value) in
    let size : length (set (vec_items b.heights) d.site (c.index_mut.result.now + d.grains)) ≡ b.heights.len = length-set (vec_items b.heights) d.site (c.index_mut.result.now + d.grains) ∙ sym b.heights.ok.0 in
    record {
      answer = (
        (λ p w. w.1 (omega (arith, b.heights.ok.0)), (λ p w. elim w.1 [ inl l ↦ omega arith | inr l ↦ omega arith ], (λ p w. omega (arith, b.heights.ok.0), (λ p w. some_none b.phase c.in_ok-next.next Drop c.in_ok-next.ensures w.1, tt)))),
        same,
        refl,
      );
      conserved = ap (λ n. sum_below n (at y.heights) + b.drained) size ∙ omega (arith, more, b.conserved);
      law = λ start ds law. subst (Law s start (d ∷ ds)) (sym same) (law_dropped s (g.met.B.Board.sound c.args.board.now) start ds (state b) d next.0 (omega (arith, b.heights.ok.0)) law);
    }
