-- What is left to show of `visit`.
use Rattle.std.proofs.Common.{◌≡◌, ℕ, ◌+◌, ◌-◌, List, set, sym, ◌∙◌, subst, arith}
use Rattle.board.specs.Walks.{linked_on}
use Rattle.waiting.specs.WaitingLists.{waits}
use Rattle.firing.specs.Firing.{at}
use Rattle.group.specs.declared.burning.rounds.Fire.{Fire}
use Rattle.group.specs.Flames.{Visit, Held, Up}
use Rattle.group.proofs.Visits.{visit_skip, visit_held, visit_all, up_held}
use Rattle.group.proofs.burning.rounds.Fire.visit.Goals as goal
use Rattle.group.proofs.burning.rounds.Fire.visit.Goals.{then-self-u-eq-UNBURNT, else-self-u-eq-UNBURNT}

both_moved : (P : Fire → List ℕ → Type 0) {f f' : Fire} {xs xs' : List ℕ} → f ≡ f' → xs ≡ xs' → P f' xs' → P f xs
both_moved P {f} {f'} {xs} {xs'} ef ex p = subst (λ q. P q xs) (sym ef) (subst (P f') (sym ex) p)

pub loop-u-preserved : goal.loop-u-preserved
loop-u-preserved g c =
    let b = g.B.Board.shape c.args.board.now in
    let ok = g.met.B.Board.sound c.args.board.now in
    let first = c.args.self.now in
    let h = at first.heights.now in
    let r = c.args.burnt.round in
    let v = c.args.burnt.site in
    let u = c.in-Some.u in
    let f = c.loop-u.self in
    let xs = c.loop-u.rounds in
    let same = c.loop-u.invariant.2 in
    let P : Fire → List ℕ → Type 0 = λ q ys. Visit b h r v (u + 1) (waits q.list) q.marks.now ys × Up first.marks.now q.marks.now × (q.heights.now ≡ first.heights.now) in
    elim c.if-self-u-eq-UNBURNT.branch [
      | then-self-u-eq-UNBURNT w ↦
          let f' = w.hold.new.self in
          let held = subst (λ (d : ℕ). Held b h r u f.marks.now (set xs u (at xs u - d)) (waits f'.list) f'.marks.now w.hold.new.rounds) w.links.ensures
          (subst (λ hs. Held b (at hs) r u f.marks.now (set xs u (at xs u - w.links.result)) (waits f'.list) f'.marks.now w.hold.new.rounds) same w.hold.ensures.held) in
          both_moved P w.self-is w.rounds-is (
            visit_held b h ok r v c.loop-u.j u (waits f.list) f.marks.now xs c.loop-u.invariant.0 c.in-Some.ensures (waits f'.list) f'.marks.now w.hold.new.rounds w.if-self-u-eq-UNBURNT.true (omega (arith, linked_on ok v u c.in-Some.ensures.linked)) held,
            up_held b h r u first.marks.now f.marks.now (set xs u (at xs u - b.m v u)) (waits f'.list) f'.marks.now w.hold.new.rounds w.if-self-u-eq-UNBURNT.true held c.loop-u.invariant.1,
            w.hold.ensures.same ∙ same,
          )
      | else-self-u-eq-UNBURNT w ↦
          both_moved P w.self-is w.rounds-is (
            visit_skip b h ok r v c.loop-u.j u (waits f.list) f.marks.now xs c.loop-u.invariant.0 c.in-Some.ensures (omega (arith, w.if-self-u-eq-UNBURNT.false)),
            c.loop-u.invariant.1,
            same,
          )
    ]

pub returns-clause-steady : goal.returns-clause-steady
returns-clause-steady g c =
    let f = c.loop-u.self in
    visit_all (g.B.Board.shape c.args.board.now) (at c.args.self.now.heights.now) c.args.burnt.round c.args.burnt.site c.loop-u.j (waits f.list) f.marks.now c.loop-u.rounds (g.met.B.Board.sound c.args.board.now) c.in_default.ensures c.loop-u.invariant.0
