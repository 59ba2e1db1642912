-- The loop of `all_grains`: the sum so far, within the limit.
use Rattle.std.proofs.Common.{◌≡◌, ◌≤◌}
use Rattle.board.specs.Shape.{sum_below}
use Rattle.firing.specs.Firing.{at}
use Rattle.settling.proofs.fire.all_grains.Given as goal

abbrev pub invariant-loop-h : goal.invariant-loop-h
invariant-loop-h l = (l.sum ≡ sum_below l.h-index (at l.heights)) × (l.sum ≤ l.limit)
