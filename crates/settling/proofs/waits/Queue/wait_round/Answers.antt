-- What is left to show of `wait_round`.
use Rattle.std.proofs.Common.{◌<◌, sym, ◌∙◌, subst, arith}
use Rattle.waiting.specs.WaitingLists.{waits}
use Rattle.board.specs.Shape.{Least}
use Rattle.board.specs.Walks.{linked_on}
use Rattle.settling.specs.Waits.{Turned}
use Rattle.settling.proofs.Waited.{walked_one, joined_next, joined_wide}
use Rattle.settling.proofs.waits.Queue.wait_round.Goals as goal

pub loop-u-preserved : goal.loop-u-preserved
loop-u-preserved g c =
    let b = g.B.Board.shape c.args.board.now in
    let m = b.m c.args.v in
    let s = c.loop-u.u-iterator in
    let u = c.in-Some.u in
    let was = c.loop-u.invariant in
    let steps = c.in-Some.ensures.steps in
    let start = c.args.self.now in
    let q = c.loop-u.self in
    let q' = c.wait.new.self in
    let least = subst (λ k. Least (b.m k) s.from u) was.3 (subst (λ d. Least ((g.B.Board.shape d).m s.site) s.from u) was.2 steps.0.0) in (
      tt,
      tt,
      steps.2 ∙ was.2,
      steps.1 ∙ was.3,
      subst (λ i. Turned (λ k. (k < i) × (0 < m k)) c.args.idle start.marks.now q'.marks.now) (sym steps.0.1)
          (walked_one m c.args.idle s.from u start.marks.now q.marks.now q'.marks.now was.5 least was.4 c.wait.ensures.turned),
      c.wait.ensures.size ∙ was.5,
      omega (arith, steps.0.1, linked_on (g.met.B.Board.sound c.args.board.now) c.args.v u least.linked),
      joined_next g.E.Entry.site m s.from u c.next.new.self.from (waits start.list) (waits q.list) (waits q'.list) least steps.0.1 was.7 c.wait.ensures.joined,
    )

pub returns-clause-joined : goal.returns-clause-joined
returns-clause-joined g c =
    joined_wide g.E.Entry.site 0 c.loop-u.u-iterator.from (g.B.Board.shape c.args.board.now).sites _ _ (omega arith) c.loop-u.invariant.7
