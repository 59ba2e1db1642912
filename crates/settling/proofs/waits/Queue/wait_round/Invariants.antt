-- The loop of `wait_round`: the sites that it has come by have been had wait.
use Rattle.std.proofs.Common.{◌≡◌, ◌<◌, ◌≤◌, length}
use Rattle.waiting.specs.WaitingLists.{waits}
use Rattle.settling.specs.Waits.{Turned, Joined}
use Rattle.settling.proofs.waits.Queue.wait_round.Given as goal

abbrev pub invariant-loop-u : goal.invariant-loop-u
invariant-loop-u g l =
    let b = g.B.Board.shape l.board in (
    (goal.iterator-loop-u g).can_next l.u-iterator
    × (goal.iterator-loop-u g).is_finite l.u-iterator
    × (l.u-iterator.board.now ≡ l.board)
    × (l.u-iterator.site ≡ l.v)
    × Turned (λ u. (u < l.u-iterator.from) × (0 < b.m l.v u)) l.idle l.initial.self.marks.now l.self.marks.now
    × (length l.self.marks.now ≡ length l.initial.self.marks.now)
    × (l.u-iterator.from ≤ b.sites)
    × Joined g.E.Entry.site 0 l.u-iterator.from (waits l.initial.self.list) (waits l.self.list)
    )
