-- Worked results: small grids whose figures are known.
use Rattle.std.specs.Prelude.{◌≡◌, ℕ, [], ◌∷◌}
use Rattle.board.specs.Shape.{Shape}
use Rattle.board.specs.Grids.{grid_of}
use Rattle.firing.specs.Firing.{at, Still}
use Rattle.firing.specs.Settling.{drained, Follows, Least}
use Rattle.firing.specs.Certificates.{Certified, EndFiresAt, TakenBackAt}
use Rattle.firing.specs.Burning.{Rounds}
use Rattle.firing.specs.Groups.{Identity}

-- from the start c the least settling counts are w; they lead to h, and d grains drain
pub record Comes (b : Shape) (c w h : ℕ → ℕ) (d : ℕ) : Type 0 where
  pub least : Least b c w
  pub leads : Follows b c w h
  pub drains : drained b w ≡ d

pub record Worked : Type 0 where
  pub one_five : Comes (grid_of 1 1) (at (5 ∷ [])) (at (1 ∷ [])) (at (1 ∷ [])) 4
  pub one_three : Comes (grid_of 1 1) (at (3 ∷ [])) (at (0 ∷ [])) (at (3 ∷ [])) 0
  pub pair : Comes (grid_of 1 2) (at (4 ∷ 3 ∷ [])) (at (1 ∷ 1 ∷ [])) (at (1 ∷ 0 ∷ [])) 6
  pub pair_certified : Certified (grid_of 1 2) (at (4 ∷ 3 ∷ [])) (at (1 ∷ 1 ∷ [])) (at (1 ∷ 0 ∷ []))
  pub pair_fires : Follows (grid_of 1 2) (at (4 ∷ 3 ∷ [])) (at (1 ∷ 0 ∷ [])) (at (0 ∷ 4 ∷ [])) × EndFiresAt (grid_of 1 2) (at (0 ∷ 4 ∷ [])) 1
  pub pair_back : Follows (grid_of 1 2) (at (3 ∷ 3 ∷ [])) (at (1 ∷ 1 ∷ [])) (at (0 ∷ 0 ∷ [])) × Still (grid_of 1 2) (at (0 ∷ 0 ∷ [])) × TakenBackAt (grid_of 1 2) (at (1 ∷ 1 ∷ [])) (at (0 ∷ 0 ∷ [])) 0
  pub burns : Rounds (grid_of 1 2) (at (1 ∷ 0 ∷ [])) (at (1 ∷ 2 ∷ []))
  pub never_burns : Rounds (grid_of 1 2) (at (0 ∷ 0 ∷ [])) (at (0 ∷ 0 ∷ []))
  pub identity_one : Identity (grid_of 1 1) (at (0 ∷ []))
  pub identity_pair : Identity (grid_of 1 2) (at (3 ∷ 3 ∷ []))
  pub identity_square : Identity (grid_of 2 2) (at (2 ∷ 2 ∷ 2 ∷ 2 ∷ []))
