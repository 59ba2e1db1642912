-- The loop of `next`: no link stands to the sites that it has come by.
use Rattle.std.proofs.Common.{◌≡◌, ℕ, ◌<◌, ◌≤◌}
use Rattle.layer.specs.Cuts.{cut_of}
use Rattle.layer.proofs.cut.ask.CutBoard.next.Given as goal

abbrev pub invariant-loop-u : goal.invariant-loop-u
invariant-loop-u g l =
    (goal.iterator-loop-u g).can_next l.u-iterator
    × (goal.iterator-loop-u g).is_finite l.u-iterator
    × (l.u-iterator.board.now ≡ l.self.below)
    × (l.u-iterator.site ≡ l.v)
    × (l.j ≤ l.u-iterator.from)
    × ((k : ℕ) → l.j ≤ k → k < l.u-iterator.from → (cut_of (g.B.Board.shape l.self.below) l.self.entries.items).m l.v k ≡ 0)
