-- The loop of `clear_unburnt`: the numbers below v are cleared, those from v on stand.
use Rattle.std.proofs.Common.{◌≡◌, ℕ, ◌<◌, ◌≤◌}
use Rattle.settling.specs.Searches.{mark}
use Rattle.settling.specs.Reaching.{Says}
use Rattle.firing.specs.Firing.{at}
use Rattle.group.specs.Flames.{Cleared}
use Rattle.group.proofs.burning.rounds.Fire.clear_unburnt.Given as goal

abbrev pub invariant-loop-v : goal.invariant-loop-v
invariant-loop-v l =
    Cleared l.v l.self.marks.now l.initial.rounds l.rounds
    × ((u : ℕ) → l.v ≤ u → at l.rounds u ≡ at l.initial.rounds u)
    × Says l.all ((u : ℕ) → u < l.v → 1 ≤ mark l.self.marks.now u)
