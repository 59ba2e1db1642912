-- What is left to show of `run`.
use Rattle.std.proofs.Common.{◌+◌, ◌-◌, ◌≡◌, length, sym, ap, ◌∙◌, inl, inr, arith}
use native.Mathlib.Nat.{min-le_left}
use Rattle.bench.specs.declared.phases.Event.TheVariants.{Fire}
use Rattle.bench.specs.States.{state}
use Rattle.bench.proofs.Keeping.{law_moves}
use Rattle.bench.proofs.Sums.{sum_is}
use Rattle.bench.proofs.Steps.{after_fire, some_none}
use Rattle.bench.proofs.Refilled.{no_count_higher, grains_light, moved, run_writes, run_lies, run_answers, moved_ghosts, moved_moves, moved_conserves}
use Rattle.bench.proofs.Bench.run.Goals as goal

pub run_within-done-requires : goal.run_within-done-requires
run_within-done-requires g c =
    let b = c.args.self.now in
    let s = g.B.Board.shape c.args.board.now in
    let xs_are = c.deref_mut.ensures.value in
    let sized : b.heights.len ≡ s.sites = omega (arith, c.in_ok-fits.ensures, b.heights.ok.0) in
    record {
      fit = record {
        sized = omega (arith, ap length xs_are, b.heights.ok.0);
        counted = omega (arith, ap length c.deref_mut-2.ensures.value, b.counts.ok.0, b.heights.ok.0, b.counts_sized);
        light = grains_light b s.sites c.deref_mut.result.now (sym sized) xs_are;
      };
      list = omega arith;
      bytes = omega arith;
      few = no_count_higher b c.deref_mut-2.result.now c.deref_mut-2.ensures.value;
      most = omega (arith, c.min-limit.ensures, min-le_left c.args.budget (b.ceiling - b.fired));
    }

pub total-requires : goal.total-requires
total-requires g c =
    let b = c.args.self.now in
    let r = c.run_within-done in
    let sized : b.heights.len ≡ (g.B.Board.shape c.args.board.now).sites = omega (arith, c.in_ok-fits.ensures, b.heights.ok.0) in
    omega (
      arith,
      run_lies (g.met.B.Board.sound c.args.board.now) b c.deref_mut.result.now r.new.heights c.deref.result.now r.ensures.0.counts sized c.deref_mut.ensures.value r.ensures.0.run r.auto.heights c.deref.ensures.value,
      b.light,
      sum_is c.deref.result.now,
    )

pub overflow_sub-self-2 : goal.overflow_sub-self-2
overflow_sub-self-2 g c =
    let b = c.args.self.now in
    let r = c.run_within-done in
    let sized : b.heights.len ≡ (g.B.Board.shape c.args.board.now).sites = omega (arith, c.in_ok-fits.ensures, b.heights.ok.0) in
    omega (
      arith,
      c.total.ensures,
      sum_is c.deref.result.now,
      run_lies (g.met.B.Board.sound c.args.board.now) b c.deref_mut.result.now r.new.heights c.deref.result.now r.ensures.0.counts sized c.deref_mut.ensures.value r.ensures.0.run r.auto.heights c.deref.ensures.value,
    )

pub invariant_of-self-2 : goal.invariant_of-self-2
invariant_of-self-2 g c =
    let b = c.args.self.now in
    let r = c.run_within-done in
    let sized : b.heights.len ≡ (g.B.Board.shape c.args.board.now).sites = omega (arith, c.in_ok-fits.ensures, b.heights.ok.0) in
    let ok = g.met.B.Board.sound c.args.board.now in
    let lies = run_lies ok b c.deref_mut.result.now r.new.heights c.deref.result.now r.ensures.0.counts sized c.deref_mut.ensures.value r.ensures.0.run r.auto.heights c.deref.ensures.value in
    moved_ghosts ok
    (run_writes ok b c.deref_mut.result.now c.deref_mut-2.result.now r.new.heights r.new.counts c.min-limit.result c.args.budget c.total.result r.result
    sized c.deref_mut.ensures.value c.deref_mut-2.ensures.value c.min-limit.ensures r.ensures r.auto.heights (c.total.ensures ∙ sum_is c.deref.result.now ∙ lies.0))

pub returns : goal.returns
returns g c =
    let b = c.args.self.now in
    let s = g.B.Board.shape c.args.board.now in
    let r = c.run_within-done in
    let sized : b.heights.len ≡ (g.B.Board.shape c.args.board.now).sites = omega (arith, c.in_ok-fits.ensures, b.heights.ok.0) in
    let ok = g.met.B.Board.sound c.args.board.now in
    let lies = run_lies ok b c.deref_mut.result.now r.new.heights c.deref.result.now r.ensures.0.counts sized c.deref_mut.ensures.value r.ensures.0.run r.auto.heights c.deref.ensures.value in
    let next = after_fire b.phase c.in_ok-next.next c.in_ok-next.ensures in
    let anew = run_writes ok b c.deref_mut.result.now c.deref_mut-2.result.now r.new.heights r.new.counts c.min-limit.result c.args.budget c.total.result r.result
    sized c.deref_mut.ensures.value c.deref_mut-2.ensures.value c.min-limit.ensures r.ensures r.auto.heights (c.total.ensures ∙ sum_is c.deref.result.now ∙ lies.0) in
    let done = run_answers ok b c.deref_mut.result.now c.deref_mut-2.result.now r.new.heights r.new.counts c.args.budget c.min-limit.result c.total.result r.result c.in_ok-next.next c.word_for.result
    sized c.deref_mut.ensures.value c.deref_mut-2.ensures.value c.min-limit.ensures r.ensures r.auto.heights (c.total.ensures ∙ sum_is c.deref.result.now ∙ lies.0) next.0 next.1 c.word_for.ensures in
    record {
      answer = (
        (λ p w. elim w.1 [ inl ne ↦ ne (omega (arith, b.heights.ok.0)) | inr m ↦ elim m [ inl l ↦ omega arith | inr l ↦ omega arith ] ], (λ p w. elim w.1 [ inl l ↦ omega arith | inr l ↦ omega arith ], (λ p w. some_none b.phase c.in_ok-next.next Fire c.in_ok-next.ensures w.1, tt))),
        done,
      );
      conserved = moved_conserves ok anew c.in_ok-next.next;
      law = λ start ds. law_moves s ok start ds (state b) (moved b r.new.heights r.new.counts c.in_ok-next.next (b.fired + r.result.fired) (b.grains - c.total.result)) r.ensures.0.counts (moved_moves ok anew c.in_ok-next.next next.0 next.1);
    }
