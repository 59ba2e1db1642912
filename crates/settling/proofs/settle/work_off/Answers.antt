-- What is left to show of `work_off`.
use Rattle.std.proofs.Common.{◌≡◌, ◌<◌, length, ◌∙◌, subst, arith, length-set}
use Rattle.waiting.specs.WaitingLists.{waits}
use Rattle.firing.specs.Firing.{at}
use Rattle.settling.specs.Searches.{Queued}
use Rattle.settling.specs.Waits.{Turned}
use Rattle.settling.proofs.Queues.{queued_length, written_size}
use Rattle.settling.proofs.Visits.{tallied_none}
use Rattle.settling.proofs.Going.{ran_low, tallied_low, going_on, going_skip, going_fire, falls_fire}
use Rattle.settling.proofs.settle.work_off.Goals as goal

pub loop-fired-init : goal.loop-fired-init
loop-fired-init g c =
    let q = c.args.queue.now in (
      record {
        tallied = tallied_none (g.B.Board.shape c.args.board.now) (at c.args.heights.now) c.args.counts.now;
        queued = record { queued = subst (λ n. Queued (λ v. v) n (waits q.list) q.marks.now) c.requires.size q.queued; low = c.requires.marks };
        covered = λ l. c.requires.covered;
        within = omega arith;
      },
      c.requires.size,
    )

pub visit-times-requires : goal.visit-times-requires
visit-times-requires g c = record {
  sized = omega arith;
  on = going_on (g.B.Board.shape c.args.board.now) (at c.args.heights.now) c.args.counts.now c.loop-fired.counts c.loop-fired.heights (waits c.loop-fired.queue.list) (waits c.take.new.self.list) c.loop-fired.queue.marks.now
      c.loop-fired.fired c.args.limit c.in-Some.v c.in-Some.ensures.1 c.loop-fired.invariant.0;
  low = ran_low (g.met.B.Board.sound c.args.board.now) (at c.args.heights.now) c.loop-fired.heights c.loop-fired.fired 1000000 (omega arith) c.requires.low c.loop-fired.invariant.0.tallied.ran;
  some = omega arith;
}

pub note-requires : goal.note-requires
note-requires g c =
    omega (
      arith,
      tallied_low (g.B.Board.shape c.args.board.now) (at c.args.heights.now) (at c.loop-fired.heights) c.args.counts.now c.loop-fired.counts c.loop-fired.fired c.in-Some.v
          c.loop-fired.invariant.0.tallied
          (going_on (g.B.Board.shape c.args.board.now) (at c.args.heights.now) c.args.counts.now c.loop-fired.counts c.loop-fired.heights (waits c.loop-fired.queue.list) (waits c.take.new.self.list) c.loop-fired.queue.marks.now
          c.loop-fired.fired c.args.limit c.in-Some.v c.in-Some.ensures.1 c.loop-fired.invariant.0),
      c.requires.few c.in-Some.v,
      c.visit-times.ensures.within,
    )

pub loop-fired-smaller-then-times-gt0 : goal.loop-fired-smaller-then-times-gt0
loop-fired-smaller-then-times-gt0 g c =
    let b = g.B.Board.shape c.args.board.now in
    let q = c.loop-fired.queue in
    let q' = c.wait_round.new.self in
    let size = written_size _ 0 q.marks.now c.take.new.self.marks.now q'.marks.now c.in-Some.ensures.2 c.wait_round.ensures.size ∙ c.loop-fired.invariant.1 in
    falls_fire c.args.limit c.loop-fired.fired b.sites c.visit-times.result (length (waits q.list)) (length (waits q'.list))
    c.if-times-gt0.true (omega (arith, c.visit-times.ensures.within))
    (queued_length (λ v. v) b.sites (waits q'.list) q'.marks.now (subst (λ n. Queued (λ v. v) n (waits q'.list) q'.marks.now) size q'.queued))

pub loop-fired-preserved-then-times-gt0 : goal.loop-fired-preserved-then-times-gt0
loop-fired-preserved-then-times-gt0 g c =
    let b = g.B.Board.shape c.args.board.now in
    let q = c.loop-fired.queue in
    let q' = c.wait_round.new.self in
    let size = written_size _ 0 q.marks.now c.take.new.self.marks.now q'.marks.now c.in-Some.ensures.2 c.wait_round.ensures.size ∙ c.loop-fired.invariant.1 in (
      going_fire b (at c.args.heights.now) c.args.counts.now c.loop-fired.counts c.loop-fired.heights (waits q.list) (waits c.take.new.self.list) q.marks.now
          c.loop-fired.fired c.args.limit c.in-Some.v c.visit-times.new.heights c.note.new.counts (waits q'.list) q'.marks.now c.visit-times.result
          (omega arith) c.in-Some.ensures.1 c.loop-fired.invariant.0 c.loop-fired-test.true c.if-times-gt0.true c.visit-times.ensures c.note.ensures
          (subst (λ fs. Turned (λ u. 0 < b.m c.in-Some.v u) 0 fs q'.marks.now) c.in-Some.ensures.2 c.wait_round.ensures.turned)
          (subst (λ n. Queued (λ v. v) n (waits q'.list) q'.marks.now) size q'.queued),
      size,
    )

pub loop-fired-preserved : goal.loop-fired-preserved
loop-fired-preserved g c =
    let q = c.loop-fired.queue in
    let none : c.visit-times.result ≡ 0 = omega arith in
    rw c.in-Some.ensures.2 (
      going_skip (g.B.Board.shape c.args.board.now) (at c.args.heights.now) c.args.counts.now c.loop-fired.counts c.loop-fired.heights (waits q.list) (waits c.take.new.self.list) q.marks.now
          c.loop-fired.fired c.args.limit c.in-Some.v c.visit-times.new.heights
          (omega arith) c.in-Some.ensures.1 c.loop-fired.invariant.0 c.loop-fired-test.true (c.visit-times.ensures.idle none) (c.visit-times.ensures.rest (omega arith)),
      length-set q.marks.now c.in-Some.v 0 ∙ c.loop-fired.invariant.1,
    )
