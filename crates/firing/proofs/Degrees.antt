-- The degree, and the height from which a site fires: all that the proofs use of them.
use Rattle.std.proofs.Common.{◌≡◌, ℕ, ◌+◌, ◌≤◌, refl, arith}
use Rattle.board.specs.Shape.{Shape, Sound, deg, row_total, sum_below}
use Rattle.board.specs.Sums.{sum_same}
use Rattle.firing.specs.Firing.{fires_from}

pub deg_is : (b : Shape) (v : ℕ) → deg b v ≡ b.s v + row_total b v
unfolding deg
deg_is b v = refl

-- a site that can fire has what it gives
pub deg_fires_from : (b : Shape) (v : ℕ) → deg b v ≤ fires_from b v
unfolding fires_from
deg_fires_from b v = omega arith

-- as many links come to a site as leave it
pub links_back : (b : Shape) → Sound b → (v : ℕ) → sum_below b.sites (λ u. b.m u v) ≡ row_total b v
links_back b sound v = sum_same b.sites (λ u. b.m u v) (b.m v) (λ u l. sound.symmetric u v)

pub deg_in : (b : Shape) → Sound b → (v : ℕ) → deg b v ≡ b.s v + sum_below b.sites (λ u. b.m u v)
deg_in b sound v = omega (arith, deg_is b v, links_back b sound v)
