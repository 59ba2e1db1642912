-- What is left to show of `from_drain`.
use Rattle.std.proofs.Common.{◌≡◌, subst, arith}
use Rattle.waiting.specs.WaitingLists.{waits}
use Rattle.settling.proofs.Searching.{Seeded, seeded_all}
use Rattle.settling.proofs.reach.from_drain.Goals as goal

pub returns-clause-searching : goal.returns-clause-searching
returns-clause-searching g c =
    let b = g.B.Board.shape c.args.board.now in
    let q = c.loop-v.queue in
    let all : c.loop-v.v ≡ b.sites = omega arith in
    seeded_all g.E.Entry.site b (waits q.list) q.marks.now (subst (λ i. Seeded g.E.Entry.site b i (waits q.list) q.marks.now) all c.loop-v.invariant.0)
