-- Ranges of numbers.
use Rattle.std.specs.Prelude.{ℕ, ◌<◌, ◌⊎◌}

-- x is not from low to high
abbrev pub Beyond : ℕ → ℕ → ℕ → Type 0
Beyond low high x = (x < low) ⊎ (high < x)
