-- What is left to show of `fire_marked`.
use Rattle.std.proofs.Common.{◌+◌, ◌<◌, set, refl, ◌∙◌, arith}
use Rattle.firing.specs.Firing.{at}
use Rattle.board.specs.Walks.{s_le}
use Rattle.bench.proofs.Waving.{wave_begins, wave_skips, wave_can, wave_fires, wave_ends, wave_light, wave_few, waving_at, ready_one, ready_none}
use Rattle.bench.proofs.firings.fire_marked.Goals as goal
use Rattle.bench.proofs.firings.fire_marked.Goals.{then-mark-eq-READY, else-mark-eq-READY}

pub loop-v-init : goal.loop-v-init
loop-v-init g c = wave_begins (g.B.Board.shape c.args.board.now) (at c.args.heights.now) c.args.counts.now (at c.args.marks.now) c.args.heights.now (λ u l. refl)

pub fire_counted-drained-requires : goal.fire_counted-drained-requires
fire_counted-drained-requires g c =
    let s = g.B.Board.shape c.args.board.now in
    let h = at c.args.heights.now in
    let cs = c.args.counts.now in
    let w = at c.args.marks.now in
    let v = c.loop-v.v in
    let on : v < s.sites = omega (arith, c.requires.fit.sized) in
    record {
      fit = record {
        sized = omega (arith, c.requires.fit.sized);
        counted = omega (arith, c.requires.fit.counted);
        light = (wave_light s h cs w (g.met.B.Board.sound c.args.board.now) v c.loop-v.heights c.loop-v.counts c.loop-v.drained c.loop-v.invariant c.requires.fit.light).0;
      };
      on = on;
      can = wave_can s h cs w v c.loop-v.heights c.loop-v.counts c.loop-v.drained on (ready_one s h v (w v) (c.requires.ready v on) c.if-mark-eq-READY.true) c.loop-v.invariant;
      few = wave_few s h cs w v c.loop-v.heights c.loop-v.counts c.loop-v.drained on c.loop-v.invariant c.requires.few;
    }

pub overflow_add-drained : goal.overflow_add-drained
overflow_add-drained g c =
    let ok = g.met.B.Board.sound c.args.board.now in
    omega (
      arith,
      (wave_light (g.B.Board.shape c.args.board.now) (at c.args.heights.now) c.args.counts.now (at c.args.marks.now) ok c.loop-v.v c.loop-v.heights c.loop-v.counts c.loop-v.drained c.loop-v.invariant c.requires.fit.light).1,
      c.fire_counted-drained.ensures.drains,
      s_le ok c.loop-v.v,
    )

pub loop-v-preserved : goal.loop-v-preserved
loop-v-preserved g c =
    let s = g.B.Board.shape c.args.board.now in
    let h = at c.args.heights.now in
    let cs = c.args.counts.now in
    let w = at c.args.marks.now in
    let v = c.loop-v.v in
    let on : v < s.sites = omega (arith, c.requires.fit.sized) in
    let xs = c.loop-v.heights in
    let ys = c.loop-v.counts in
    let d = c.loop-v.drained in
    elim c.if-mark-eq-READY.branch [
      | then-mark-eq-READY e ↦
          waving_at s h cs w (v + 1) e.fire_counted-drained.new.heights c.if-mark-eq-READY.heights (set ys v (at ys v + 1)) c.if-mark-eq-READY.counts (d + s.s v) c.if-mark-eq-READY.drained
          e.heights-is (e.counts-is ∙ e.fire_counted-drained.ensures.counts) (omega (arith, e.drained-is, e.fire_counted-drained.ensures.drains))
          (wave_fires s h cs w (g.met.B.Board.sound c.args.board.now) v xs e.fire_counted-drained.new.heights ys d c.requires.fit.counted e.if-mark-eq-READY.true c.loop-v.invariant e.fire_counted-drained.ensures.fires)
      | else-mark-eq-READY e ↦
          waving_at s h cs w (v + 1) xs c.if-mark-eq-READY.heights ys c.if-mark-eq-READY.counts d c.if-mark-eq-READY.drained e.heights-is e.counts-is e.drained-is
          (wave_skips s h cs w v xs ys d (ready_none s h v (w v) (c.requires.ready v on) e.if-mark-eq-READY.false) c.loop-v.invariant)
    ]

pub returns : goal.returns
returns g c =
    wave_ends (g.B.Board.shape c.args.board.now) (at c.args.heights.now) c.args.counts.now (at c.args.marks.now) c.loop-v.v c.loop-v.heights c.loop-v.counts c.loop-v.drained (omega (arith, c.requires.fit.sized)) c.loop-v.invariant
