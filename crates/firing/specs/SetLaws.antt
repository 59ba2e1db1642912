-- The laws of sets of sites, what can be taken back and what burns, each over every board.
use Rattle.std.specs.Prelude.{ℕ, ◌<◌, ◌≤◌, Bool, ◌||◌, ◌↔◌}
use Rattle.board.specs.Shape.{Shape, Sound}
use Rattle.firing.specs.Firing.{Still}
use Rattle.firing.specs.Settling.{Follows, Same, Least}
use Rattle.firing.specs.Reaching.{AllLinked}
use Rattle.firing.specs.TakingBack.{links_into, Lower, AsHigh, TakesBack, Empty, Largest}
use Rattle.firing.specs.Burning.{Rounds, AllBurn, Stays}

-- in plain numbers: a height below its links into a set, or at least as high
abbrev pub PlainHeights : Type 0
PlainHeights = (b : Shape) → Sound b → (h : ℕ → ℕ) (S : ℕ → Bool) (v : ℕ) → (Lower b h S v ↔ (h v < links_into b S v)) × (AsHigh b h S v ↔ (links_into b S v ≤ h v))

-- counts whose end follows and is still are the least if and only if no set but the empty one can be taken back
abbrev pub CertificateLaw : Type 0
CertificateLaw = (b : Shape) → Sound b → AllLinked b → (c h w : ℕ → ℕ) → Follows b c w h → Still b h → Least b c w ↔ ((S : ℕ → Bool) → TakesBack b w h S → Empty b S)

-- the union of two sets that can be taken back is one
abbrev pub UnionBack : Type 0
UnionBack = (b : Shape) → Sound b → (w h : ℕ → ℕ) (S S' : ℕ → Bool) → TakesBack b w h S → TakesBack b w h S' → TakesBack b w h (λ v. S v || S' v)

-- there is a largest set that can be taken back
abbrev pub LargestBack : Type 0
LargestBack = (b : Shape) → Sound b → (w h : ℕ → ℕ) → (S : ℕ → Bool) × Largest b w h S

-- heights have rounds, and only one list of them
abbrev pub RoundsOnce : Type 0
RoundsOnce = (b : Shape) → Sound b → (h : ℕ → ℕ) → (r : ℕ → ℕ) × Rounds b h r × ((r' : ℕ → ℕ) → Rounds b h r' → Same b r r')

-- every site burns if and only if no set but the empty one stays
abbrev pub BurningLaw : Type 0
BurningLaw = (b : Shape) → Sound b → (h : ℕ → ℕ) → AllBurn b h ↔ ((S : ℕ → Bool) → Stays b h S → Empty b S)
