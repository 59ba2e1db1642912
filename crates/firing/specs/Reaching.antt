-- Reaching: chains of links that end in the drain.
use Rattle.std.specs.Prelude.{ℕ, ◌<◌, ◌≤◌}
use Rattle.board.specs.Shape.{Shape, deg}

-- v reaches the drain by a chain of links: at once, or by a site u that does
pub data Reaches (b : Shape) : ℕ → Type 0 where
  out : (v : ℕ) → v < b.sites → 1 ≤ b.s v → Reaches b v
  along : (v u : ℕ) → v < b.sites → 1 ≤ b.m v u → Reaches b u → Reaches b v

-- every site reaches the drain
abbrev pub AllReach : Shape → Type 0
AllReach b = (v : ℕ) → v < b.sites → Reaches b v

-- every degree is at least 1
abbrev pub AllLinked : Shape → Type 0
AllLinked b = (v : ℕ) → v < b.sites → 1 ≤ deg b v
