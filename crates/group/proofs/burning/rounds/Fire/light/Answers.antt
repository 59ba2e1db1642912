-- What is left to show of `light`.
use Rattle.std.proofs.Common.{refl, ◌∙◌, subst, arith}
use Rattle.waiting.specs.WaitingLists.{waits}
use Rattle.firing.specs.Firing.{at}
use Rattle.group.specs.Flames.{Held}
use Rattle.group.proofs.Visits.{lighting_none, lighting_more}
use Rattle.group.proofs.burning.rounds.Fire.light.Goals as goal

pub loop-u-init : goal.loop-u-init
loop-u-init g c =
    let f = c.args.self.now in
    (lighting_none (g.B.Board.shape c.args.board.now) (at f.heights.now) (waits f.list) f.marks.now c.args.rounds.now c.requires.empty c.requires.fresh, refl)

pub loop-u-preserved : goal.loop-u-preserved
loop-u-preserved g c =
    let b = g.B.Board.shape c.args.board.now in
    let f = c.loop-u.self in
    let f' = c.hold.new.self in
    let same = c.loop-u.invariant.1 in
    let held = subst (λ hs. Held b (at hs) 0 c.loop-u.u f.marks.now c.loop-u.rounds (waits f'.list) f'.marks.now c.hold.new.rounds) same c.hold.ensures.held in (
      lighting_more b (at c.args.self.now.heights.now) c.loop-u.u (waits f.list) f.marks.now c.loop-u.rounds (waits f'.list) f'.marks.now c.hold.new.rounds (omega arith) c.loop-u.invariant.0 held,
      c.hold.ensures.same ∙ same,
    )
