-- What is left to show of `wave`.
use Rattle.std.proofs.Common.{◌+◌, ◌≡◌, length, sym, ap, ◌∙◌, subst, inl, inr, arith, length-take}
use Rattle.firing.specs.Firing.{at}
use Rattle.bench.specs.declared.phases.Event.TheVariants.{Fire}
use Rattle.bench.specs.States.{state}
use Rattle.bench.specs.Checks.{Ready}
use Rattle.bench.proofs.Keeping.{law_moves}
use Rattle.bench.proofs.Steps.{after_fire, some_none}
use Rattle.bench.proofs.Waving.{ready_same}
use Rattle.bench.proofs.Refilled.{no_count_higher, grains_light, moved, wave_writes, moved_ghosts, moved_moves, moved_conserves, wave_drains}
use Rattle.bench.proofs.Bench.wave.Goals as goal

pub fire_marked-drained-requires : goal.fire_marked-drained-requires
fire_marked-drained-requires g c =
    let b = c.args.self.now in
    let s = g.B.Board.shape c.args.board.now in
    let xs_are = c.deref_mut.ensures.value in
    let sized : b.heights.len ≡ s.sites = omega (arith, c.in_ok-fits.ensures, b.heights.ok.0) in
    record {
      fit = record {
        sized = omega (arith, ap length xs_are, b.heights.ok.0);
        counted = omega (arith, ap length c.deref_mut-2.ensures.value, b.counts.ok.0, b.heights.ok.0, b.counts_sized);
        light = grains_light b s.sites c.deref_mut.result.now (sym sized) xs_are;
      };
      marks = omega (arith, length-take c.len-n.result c.args.bytes.now);
      ready = subst (λ l. Ready s (at l) (at c.mark_ready-ready.new.marks)) (c.deref.ensures.value ∙ sym xs_are) c.mark_ready-ready.ensures.ready;
      few = no_count_higher b c.deref_mut-2.result.now c.deref_mut-2.ensures.value;
    }

pub overflow_add-self-2 : goal.overflow_add-self-2
overflow_add-self-2 g c =
    let b = c.args.self.now in
    let s = g.B.Board.shape c.args.board.now in
    let sized : b.heights.len ≡ s.sites = omega (arith, c.in_ok-fits.ensures, b.heights.ok.0) in
    omega (arith, b.conserved, b.light, wave_drains (g.met.B.Board.sound c.args.board.now) (at c.deref_mut.result.now) (at c.fire_marked-drained.new.heights) c.deref_mut-2.result.now c.fire_marked-drained.new.counts (at c.mark_ready-ready.new.marks) c.fire_marked-drained.result c.fire_marked-drained.ensures (grains_light b s.sites c.deref_mut.result.now (sym sized) c.deref_mut.ensures.value))

pub invariant_of-self-2 : goal.invariant_of-self-2
invariant_of-self-2 g c =
    let b = c.args.self.now in
    let f = c.fire_marked-drained in
    let sized : b.heights.len ≡ (g.B.Board.shape c.args.board.now).sites = omega (arith, c.in_ok-fits.ensures, b.heights.ok.0) in
    moved_ghosts (g.met.B.Board.sound c.args.board.now)
    (wave_writes (g.B.Board.shape c.args.board.now) c.args.self.now c.deref_mut.result.now c.deref_mut-2.result.now f.new.heights f.new.counts (at c.mark_ready-ready.new.marks) c.mark_ready-ready.result f.result
    sized c.deref_mut.ensures.value c.deref_mut-2.ensures.value f.ensures f.auto.heights c.mark_ready-ready.ensures.number (omega arith))

pub returns : goal.returns
returns g c =
    let b = c.args.self.now in
    let s = g.B.Board.shape c.args.board.now in
    let ok = g.met.B.Board.sound c.args.board.now in
    let f = c.fire_marked-drained in
    let w = at c.mark_ready-ready.new.marks in
    let ready : Ready s (at (state b).heights) w = subst (λ l. Ready s (at l) w) c.deref.ensures.value c.mark_ready-ready.ensures.ready in
    let sized : b.heights.len ≡ s.sites = omega (arith, c.in_ok-fits.ensures, b.heights.ok.0) in
    let anew = wave_writes s b c.deref_mut.result.now c.deref_mut-2.result.now f.new.heights f.new.counts w c.mark_ready-ready.result f.result
    sized c.deref_mut.ensures.value c.deref_mut-2.ensures.value f.ensures f.auto.heights c.mark_ready-ready.ensures.number (omega arith) in
    let next = after_fire b.phase c.in_ok-next.next c.in_ok-next.ensures in
    let moves = moved_moves ok anew c.in_ok-next.next next.0 next.1 in
    record {
      answer = (
        (λ p q. elim q.1 [ inl ne ↦ ne (omega (arith, b.heights.ok.0)) | inr l ↦ omega arith ], (λ p q. some_none b.phase c.in_ok-next.next Fire c.in_ok-next.ensures q.1, (λ p q. omega (arith, q.1.2, ready_same s (at (state b).heights) q.1.0 w q.1.1 ready, c.mark_ready-ready.ensures.number, b.under), tt))),
        (w, ready, moves, sym c.mark_ready-ready.ensures.number),
      );
      conserved = moved_conserves ok anew c.in_ok-next.next;
      law = λ start ds. law_moves s ok start ds (state b) (moved b f.new.heights f.new.counts c.in_ok-next.next (b.fired + c.mark_ready-ready.result) (b.drained + f.result)) w moves;
    }
