-- What is left to show of `search`.
use Rattle.std.proofs.Common.{refl, ◌∙◌, subst, inr, arith}
use Rattle.waiting.specs.WaitingLists.{waits}
use Rattle.settling.specs.Searches.{Searching}
use Rattle.settling.proofs.Queues.{written_size, none_waits}
use Rattle.settling.proofs.Searching.{visit_turned, searching_more, searching_less, searching_end}
use Rattle.settling.proofs.reach.search.Goals as goal

pub loop-e-smaller : goal.loop-e-smaller
loop-e-smaller g c =
    let b = g.B.Board.shape c.args.board.now in
    let site = g.E.Entry.site in
    let q = c.loop-e.queue in
    let q' = c.wait_round.new.self in
    let s = subst (λ w. Searching site b w q.marks.now) c.in-Some.ensures.1 c.loop-e.invariant.0 in
    let turned = visit_turned site b c.site_of.result c.in-Some.e q.marks.now c.take.new.self.marks.now q'.marks.now c.site_of.ensures c.in-Some.ensures.2 c.wait_round.ensures.turned in
    let size = written_size _ 2 q.marks.now c.take.new.self.marks.now q'.marks.now c.in-Some.ensures.2 c.wait_round.ensures.size in
    searching_less site b c.in-Some.e (waits c.take.new.self.list) (waits q'.list) q.marks.now q'.marks.now (omega arith) s.queued turned (size ∙ c.loop-e.invariant.1 ∙ c.requires.size) q'.queued

pub loop-e-preserved : goal.loop-e-preserved
loop-e-preserved g c =
    let b = g.B.Board.shape c.args.board.now in
    let site = g.E.Entry.site in
    let q = c.loop-e.queue in
    let q' = c.wait_round.new.self in
    let s = subst (λ w. Searching site b w q.marks.now) c.in-Some.ensures.1 c.loop-e.invariant.0 in
    let turned = visit_turned site b c.site_of.result c.in-Some.e q.marks.now c.take.new.self.marks.now q'.marks.now c.site_of.ensures c.in-Some.ensures.2 c.wait_round.ensures.turned in
    let size = written_size _ 2 q.marks.now c.take.new.self.marks.now q'.marks.now c.in-Some.ensures.2 c.wait_round.ensures.size in (
      searching_more site b (g.met.B.Board.sound c.args.board.now) c.in-Some.e (waits c.take.new.self.list) (waits q'.list) q.marks.now q'.marks.now (omega arith) s turned
          (size ∙ c.loop-e.invariant.1 ∙ c.requires.size) q'.queued,
      size ∙ c.loop-e.invariant.1,
    )

pub returns-clause-searched : goal.returns-clause-searched
returns-clause-searched g c =
    let b = g.B.Board.shape c.args.board.now in
    searching_end g.E.Entry.site b (g.met.B.Board.sound c.args.board.now) (waits c.loop-e.queue.list) c.take.new.self.marks.now (none_waits 2 _ (inr refl) c.in_default.ensures.0)
    (rw c.in_default.ensures.2 c.loop-e.invariant.0)
