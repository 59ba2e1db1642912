-- What is left to show of `spread`.
use Rattle.std.proofs.Common.{subst, arith}
use Rattle.waiting.specs.WaitingLists.{waits}
use Rattle.firing.specs.Firing.{at}
use Rattle.group.specs.Flames.{Steady}
use Rattle.group.proofs.Fires.{marks_on}
use Rattle.group.proofs.Visits.{was, visit_begins, visit_less}
use Rattle.group.proofs.Ends.{ended}
use Rattle.group.proofs.burning.rounds.Fire.spread.Goals as goal

pub bounds-self-burnt : goal.bounds-self-burnt
bounds-self-burnt g c =
    let b = g.B.Board.shape c.args.board.now in
    let h = at c.args.self.now.heights.now in
    let r = c.loop-burnt.invariant.0.0 in
    let f = c.loop-burnt.self in
    let s = subst (λ w. Steady b h r w f.marks.now c.loop-burnt.rounds) c.in-Some.ensures.popped c.loop-burnt.invariant.0.1 in
    omega (arith, (was b h r c.in-Some.burnt (waits c.pop.new.self) f.marks.now c.loop-burnt.rounds (marks_on b.sites c.args.self.now f c.requires.sized c.loop-burnt.invariant.1) s).0, marks_on b.sites c.args.self.now f c.requires.sized c.loop-burnt.invariant.1)

pub visit-requires-clause-visit : goal.visit-requires-clause-visit
visit-requires-clause-visit g c =
    let b = g.B.Board.shape c.args.board.now in
    let h = at c.args.self.now.heights.now in
    let r = c.loop-burnt.invariant.0.0 in
    let f = c.loop-burnt.self in
    let s = subst (λ w. Steady b h r w f.marks.now c.loop-burnt.rounds) c.in-Some.ensures.popped c.loop-burnt.invariant.0.1 in
    rw c.loop-burnt.invariant.1 (visit_begins b h r c.in-Some.burnt (waits c.pop.new.self) f.marks.now c.loop-burnt.rounds (marks_on b.sites c.args.self.now f c.requires.sized c.loop-burnt.invariant.1) s)

pub loop-burnt-smaller : goal.loop-burnt-smaller
loop-burnt-smaller g c =
    let b = g.B.Board.shape c.args.board.now in
    let h = at c.args.self.now.heights.now in
    let r = c.loop-burnt.invariant.0.0 in
    let f = c.loop-burnt.self in
    let f' = c.visit.new.self in
    let s = subst (λ w. Steady b h r w f.marks.now c.loop-burnt.rounds) c.in-Some.ensures.popped c.loop-burnt.invariant.0.1 in
    visit_less b h r c.in-Some.burnt (waits c.pop.new.self) f.marks.now c.loop-burnt.rounds (marks_on b.sites c.args.self.now f c.requires.sized c.loop-burnt.invariant.1) s
    c.in-Some.burnt.round (waits f'.list) f'.marks.now c.visit.new.rounds (subst (λ hs. Steady b (at hs) c.in-Some.burnt.round (waits f'.list) f'.marks.now c.visit.new.rounds) c.loop-burnt.invariant.1 c.visit.ensures.steady) c.visit.ensures.up

pub returns-clause-ended : goal.returns-clause-ended
returns-clause-ended g c =
    let f = c.loop-burnt.self in
    ended (g.B.Board.shape c.args.board.now) (g.met.B.Board.sound c.args.board.now) (at c.args.self.now.heights.now) c.loop-burnt.invariant.0.0 (waits f.list) f.marks.now c.loop-burnt.rounds
    c.in_default.ensures.popped.0 c.loop-burnt.invariant.0.1
