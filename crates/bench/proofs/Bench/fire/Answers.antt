-- What is left to show of `fire`.
use Rattle.std.proofs.Common.{◌+◌, ◌≡◌, length, sym, ap, ◌∙◌, subst, arith}
use Rattle.board.specs.Walks.{s_le}
use Rattle.firing.specs.Firing.{at, CanFire}
use Rattle.bench.specs.declared.phases.Event.TheVariants.{Fire}
use Rattle.bench.specs.States.{state}
use Rattle.bench.specs.Answers.{once}
use Rattle.bench.proofs.Keeping.{law_moves}
use Rattle.bench.proofs.Steps.{after_fire, some_none}
use Rattle.bench.proofs.Refilled.{no_count_higher, grains_light, moved, fire_writes, moved_ghosts, moved_moves, moved_conserves}
use Rattle.bench.proofs.Bench.fire.Goals as goal

pub fire_counted-drained-requires : goal.fire_counted-drained-requires
fire_counted-drained-requires g c =
    let b = c.args.self.now in
    let s = g.B.Board.shape c.args.board.now in
    let xs_are = c.deref_mut.ensures.value in
    let sized : b.heights.len ≡ s.sites = omega (arith, c.in_ok-fits.ensures, b.heights.ok.0) in
    record {
      fit = record {
        sized = omega (arith, ap length xs_are, b.heights.ok.0);
        counted = omega (arith, ap length c.deref_mut-2.ensures.value, b.counts.ok.0, b.heights.ok.0, b.counts_sized);
        light = grains_light b s.sites c.deref_mut.result.now (sym sized) xs_are;
      };
      on = omega (arith, b.heights.ok.0);
      can = subst (λ l. CanFire s (at l) c.args.site) (c.deref.ensures.value ∙ sym xs_are) c.if-not-can_fire.ensures;
      few = no_count_higher b c.deref_mut-2.result.now c.deref_mut-2.ensures.value c.args.site;
    }

pub overflow_add-self-2 : goal.overflow_add-self-2
overflow_add-self-2 g c =
    let b = c.args.self.now in
    omega (arith, b.conserved, b.light, c.fire_counted-drained.ensures.drains, s_le (g.met.B.Board.sound c.args.board.now) c.args.site)

pub invariant_of-self-2 : goal.invariant_of-self-2
invariant_of-self-2 g c =
    let s = g.B.Board.shape c.args.board.now in
    let b = c.args.self.now in
    let f = c.fire_counted-drained in
    let sized : b.heights.len ≡ s.sites = omega (arith, c.in_ok-fits.ensures, b.heights.ok.0) in
    moved_ghosts (g.met.B.Board.sound c.args.board.now)
    (fire_writes s c.args.self.now c.deref_mut.result.now c.deref_mut-2.result.now f.new.heights f.new.counts c.args.site f.result sized (omega arith)
    c.deref_mut.ensures.value c.deref_mut-2.ensures.value f.ensures.fires f.auto.heights f.ensures.counts f.ensures.drains (omega arith))

pub returns : goal.returns
returns g c =
    let b = c.args.self.now in
    let s = g.B.Board.shape c.args.board.now in
    let ok = g.met.B.Board.sound c.args.board.now in
    let f = c.fire_counted-drained in
    let sized : b.heights.len ≡ s.sites = omega (arith, c.in_ok-fits.ensures, b.heights.ok.0) in
    let anew = fire_writes s b c.deref_mut.result.now c.deref_mut-2.result.now f.new.heights f.new.counts c.args.site f.result sized (omega arith)
    c.deref_mut.ensures.value c.deref_mut-2.ensures.value f.ensures.fires f.auto.heights f.ensures.counts f.ensures.drains (omega arith) in
    let next = after_fire b.phase c.in_ok-next.next c.in_ok-next.ensures in
    let moves = moved_moves ok anew c.in_ok-next.next next.0 next.1 in
    let can = subst (λ l. CanFire s (at l) c.args.site) c.deref.ensures.value c.if-not-can_fire.ensures in
    record {
      answer = (
        (λ p w. w.1 (omega (arith, b.heights.ok.0)), (λ p w. omega (arith, b.heights.ok.0), (λ p w. some_none b.phase c.in_ok-next.next Fire c.in_ok-next.ensures w.1, (λ p w. w.1 can, (λ p w. omega arith, tt))))),
        moves,
      );
      conserved = moved_conserves ok anew c.in_ok-next.next;
      law = λ start ds. law_moves s ok start ds (state b) (moved b f.new.heights f.new.counts c.in_ok-next.next (b.fired + 1) (b.drained + f.result)) (once c.args.site) moves;
    }
