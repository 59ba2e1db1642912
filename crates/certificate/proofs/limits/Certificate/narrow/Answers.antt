-- What is left to show of `narrow`.
use Rattle.std.proofs.Common.{◌<◌, refl, ap, ◌∙◌, subst, inr, arith, length-set}
use Rattle.waiting.specs.WaitingLists.{waits}
use Rattle.firing.specs.Firing.{at}
use Rattle.firing.specs.TakingBack.{links_into}
use Rattle.settling.specs.Waits.{Turned}
use Rattle.settling.proofs.Queues.{none_waits}
use Rattle.certificate.specs.Sets.{marked, Awaits}
use Rattle.certificate.proofs.Leaving.{look_on, look_gone, look_size, look_stays, stays_less, look_leaves, leaves_less, narrowing_ends}
use Rattle.certificate.proofs.limits.Certificate.narrow.Goals as goal

pub offset_bounds-self-v : goal.offset_bounds-self-v
offset_bounds-self-v g c =
    let ok = g.met.B.Board.sound c.args.self.now.board.now in
    omega (arith, ok.few, look_on ok c.in-Some.ensures.1 (omega arith) c.loop-v.invariant.0)

pub bounds-self-v : goal.bounds-self-v
bounds-self-v g c =
    omega (arith, look_on (g.met.B.Board.sound c.args.self.now.board.now) c.in-Some.ensures.1 (omega arith) c.loop-v.invariant.0)

pub loop-v-smaller-then-self-v : goal.loop-v-smaller-then-self-v
loop-v-smaller-then-self-v g c =
    rw c.in-Some.ensures.2 (stays_less (g.met.B.Board.sound c.args.self.now.board.now) c.in-Some.ensures.1 (omega arith) c.loop-v.invariant.0)

pub loop-v-preserved-then-self-v : goal.loop-v-preserved-then-self-v
loop-v-preserved-then-self-v g c =
    let v = c.in-Some.v in
    let into = ap (λ m. links_into (g.B.Board.shape c.args.self.now.board.now) (marked m) v) (c.marks.ensures ∙ c.in-Some.ensures.2) in
    rw c.in-Some.ensures.2 (
      look_stays (g.met.B.Board.sound c.args.self.now.board.now) c.in-Some.ensures.1 (omega arith) c.loop-v.invariant.0 (omega (arith, into)),
      length-set c.loop-v.queue.marks.now v 2 ∙ c.loop-v.invariant.1,
    )

pub loop-v-smaller : goal.loop-v-smaller
loop-v-smaller g c =
    let b = g.B.Board.shape c.args.self.now.board.now in
    let ok = g.met.B.Board.sound c.args.self.now.board.now in
    let v = c.in-Some.v in
    let q' = c.wait_round.new.self in
    let size = look_size ok c.in-Some.ensures.1 (omega arith) c.loop-v.invariant.0 q'.marks.now c.in-Some.ensures.2 c.rest.ensures.rested c.wait_round.ensures.size ∙ c.loop-v.invariant.1 in
    let gone = look_gone ok c.in-Some.ensures.1 (omega arith) c.loop-v.invariant.0 c.in-Some.ensures.2 c.rest.ensures.rested in
    leaves_less ok c.in-Some.ensures.1 (omega arith) c.loop-v.invariant.0
    (subst (λ n. Awaits n (waits q'.list) q'.marks.now) (size ∙ c.requires.size) q'.queued)
    (subst (λ m. Turned (λ u. 0 < b.m v u) 2 m q'.marks.now) gone c.wait_round.ensures.turned)

pub loop-v-preserved : goal.loop-v-preserved
loop-v-preserved g c =
    let b = g.B.Board.shape c.args.self.now.board.now in
    let ok = g.met.B.Board.sound c.args.self.now.board.now in
    let v = c.in-Some.v in
    let q' = c.wait_round.new.self in
    let size = look_size ok c.in-Some.ensures.1 (omega arith) c.loop-v.invariant.0 q'.marks.now c.in-Some.ensures.2 c.rest.ensures.rested c.wait_round.ensures.size ∙ c.loop-v.invariant.1 in
    let gone = look_gone ok c.in-Some.ensures.1 (omega arith) c.loop-v.invariant.0 c.in-Some.ensures.2 c.rest.ensures.rested in
    let into = ap (λ m. links_into b (marked m) v) (c.marks.ensures ∙ c.in-Some.ensures.2) in (
      look_leaves ok c.in-Some.ensures.1 (omega arith) c.loop-v.invariant.0
          (subst (λ n. Awaits n (waits q'.list) q'.marks.now) (size ∙ c.requires.size) q'.queued)
          (subst (λ m. Turned (λ u. 0 < b.m v u) 2 m q'.marks.now) gone c.wait_round.ensures.turned) (omega (arith, into)),
      size,
    )

pub returns-clause-largest : goal.returns-clause-largest
returns-clause-largest g c =
    narrowing_ends (g.B.Board.shape c.args.self.now.board.now) (at c.args.self.now.counts.now) (at c.args.self.now.end.now) (waits c.loop-v.queue.list) c.take.new.self.marks.now
    (none_waits 2 _ (inr refl) c.in_default.ensures.0) (rw c.in_default.ensures.2 c.loop-v.invariant.0)
