-- Sites that wait and their marks: what settling keeps between two visits.
use Rattle.std.specs.Prelude.{◌≡◌, ℕ, ◌<◌, ◌≤◌, List}
use Rattle.board.specs.Shape.{Shape, deg}
use Rattle.firing.specs.Firing.{CanFire}
use Rattle.firing.specs.Firing.{at}
use Rattle.settling.specs.Firings.{FiresTimes}
use Rattle.settling.specs.Searches as Searches
use Rattle.settling.specs.Searches.{mark}

-- the sites ws that wait are those below n that have the mark 1, each once, and the other marks are 0
pub record Queued (n : ℕ) (ws marks : List ℕ) : Type 0 where
  pub queued : Searches.Queued (λ v. v) n ws marks
  pub low : (u : ℕ) → u < n → mark marks u ≤ 1

-- each site that can fire waits
abbrev pub Covered : Shape → (ℕ → ℕ) → List ℕ → Type 0
Covered b h marks = (u : ℕ) → u < b.sites → CanFire b h u → at marks u ≡ 1

-- v fires k times in a row, as often as its height and the limit allow
pub record Visited (b : Shape) (v limit : ℕ) (xs ys : List ℕ) (k : ℕ) : Type 0 where
  pub fires : FiresTimes b v k (at xs) (at ys)
  pub linked : 1 ≤ k → 1 ≤ deg b v
  pub within : k ≤ limit
  pub rest : k < limit → CanFire b (at ys) v → ⊥
  pub idle : k ≡ 0 → ys ≡ xs
