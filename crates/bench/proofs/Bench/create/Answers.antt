-- What is left to show of `create`.
use Rattle.std.proofs.Common.{◌≡◌, ℕ, None, vec_items, refl, ap, arith}
use Rattle.board.specs.Shape.{sum_below}
use Rattle.board.specs.Sums.{sum_none}
use Rattle.firing.specs.Firing.{at}
use Rattle.bench.specs.declared.Phase.TheVariants.{Shelved}
use Rattle.bench.specs.States.{State}
use Rattle.bench.specs.Answers.{Begun}
use Rattle.bench.proofs.Keeping.{law_begun}
use Rattle.bench.proofs.Sums.{zeros}
use Rattle.bench.proofs.Bench.create.Goals as goal

pub invariant_of-result : goal.invariant_of-result
invariant_of-result g c =
    let m = c.args.memory in
    let fresh = c.in-Ok.ensures.1 in
    let counts : (u : ℕ) → at c.fill.new.self.items u ≡ 0 = zeros m.counts.len _ (c.fill.ensures.items (λ y e. e)) in
    let opened : (u : ℕ) → at c.fill-2.new.self.items u ≡ 0 = zeros m.opened.len _ (c.fill-2.ensures.items (λ y e. e)) in
    record {
      counts_sized = omega (arith, c.fill.ensures.len, fresh.sized, fresh.counts_sized, m.heights.ok.0, m.counts.ok.0);
      opened_sized = omega (arith, c.fill-2.ensures.len, fresh.sized, fresh.opened_sized, m.heights.ok.0, m.opened.ok.0);
      conserved = omega (arith, fresh.grains_are, ap (λ n. sum_below n (at (vec_items m.heights))) m.heights.ok.0);
      light = fresh.light;
      counted = sum_none m.heights.len (at c.fill.new.self.items) (λ u l. counts u);
      under = omega arith;
      most = fresh.low;
      grown = λ u. omega (arith, opened u);
      earlier = omega arith;
      numbered = omega arith;
    }

pub returns : goal.returns
returns g c =
    let m = c.args.memory in
    let s = g.B.Board.shape c.args.board.now in
    let start = vec_items m.heights in
    let may = c.in-Ok.ensures in
    let fresh = may.1 in
    let x : State = record {
      heights = start;
      counts = c.fill.new.self.items;
      opened = c.fill-2.new.self.items;
      phase = Shelved;
      number = 0;
      last = None;
      grains = c.in-Ok.grains;
      drained = 0;
      drained_before = 0;
      fired = 0;
      ceiling = c.args.ceiling;
    } in
    let begun : Begun start c.args.ceiling x = record {
      heights = refl;
      counts = zeros m.counts.len x.counts (c.fill.ensures.items (λ y e. e));
      counts_long = omega (arith, c.fill.new.self.ok.0, c.fill.ensures.len, m.counts.ok.0, fresh.counts_sized, fresh.sized);
      opened = zeros m.opened.len x.opened (c.fill-2.ensures.items (λ y e. e));
      opened_long = omega (arith, c.fill-2.new.self.ok.0, c.fill-2.ensures.len, m.opened.ok.0, fresh.opened_sized, fresh.sized);
      phase = refl;
      number = refl;
      last = refl;
      grains_are = fresh.grains_are;
      drained_is = refl;
      drained_before = refl;
      fired = refl;
      ceiling_is = refl;
    } in
    (may.0, begun, law_begun s (g.met.B.Board.sound c.args.board.now) start c.args.ceiling x fresh.sized fresh.reach begun)
