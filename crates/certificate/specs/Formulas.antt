-- Answers on settling's formula.
use Rattle.std.specs.Prelude.{ℕ, Some, None, Option}
use Rattle.board.specs.Shape.{Shape}
use Rattle.firing.specs.Settling.{Follows}
use Rattle.firing.specs.Certificates.{NotFollowingAt}

-- the lowest site at which the end does not follow, or none where it follows everywhere
abbrev pub LowestApart : Shape → (ℕ → ℕ) → (ℕ → ℕ) → (ℕ → ℕ) → Option ℕ → Type 0
LowestApart b c w h None = Follows b c w h
LowestApart b c w h (Some v) = NotFollowingAt b c w h v
