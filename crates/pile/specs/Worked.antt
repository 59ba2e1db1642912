-- Worked results: small boards whose figures are known.
use Rattle.std.specs.Prelude.{◌≡◌, ℕ, List, [], ◌∷◌}
use Rattle.board.specs.Shape.{Shape, deg}
use Rattle.board.specs.Grids.{grid_of}
use Rattle.layer.specs.Earths.{earthed}
use Rattle.layer.specs.Merges.{merged}

-- of the sites 0 and 1 of a board: the links between them, the drain links of each, the degree of each
abbrev pub figures_of : Shape → List ℕ
figures_of b = b.m 0 1 ∷ b.s 0 ∷ b.s 1 ∷ deg b 0 ∷ deg b 1 ∷ []

-- grid 1×3 with 1 earthed
abbrev pub MiddleEarthed : Type 0
MiddleEarthed = figures_of (earthed 1 (grid_of 1 3)) ≡ 0 ∷ 4 ∷ 4 ∷ 4 ∷ 4 ∷ []

-- grid 1×3 with 2 merged into 0
abbrev pub EndsMerged : Type 0
EndsMerged = figures_of (merged 2 0 (grid_of 1 3)) ≡ 2 ∷ 6 ∷ 2 ∷ 8 ∷ 4 ∷ []
