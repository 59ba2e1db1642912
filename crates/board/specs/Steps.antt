-- Steps of a walk over the sites that a site is linked to.
use Rattle.std.specs.Prelude.{◌≡◌, ℕ, ◌+◌, Some, None, Option}
use Rattle.board.specs.Shape.{Shape, NextIs}

-- from j the walk comes to the least site that v is linked to, and goes on behind it; or none is left
abbrev pub Stepped : Shape → ℕ → ℕ → Option ℕ → ℕ → Type 0
Stepped b v j (Some u) i = NextIs b v j (Some u) × (i ≡ u + 1)
Stepped b v j None i = NextIs b v j None × (i ≡ j)
