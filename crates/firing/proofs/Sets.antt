-- Links into a set of sites.
use Rattle.std.proofs.Common.{◌≡◌, ℕ, ◌<◌, ◌≤◌, Bool, true, false, cond, refl, ap, arith}
use Rattle.board.specs.Shape.{Shape, Sound, row_total, sum_below}
use Rattle.board.specs.Sums.{sum_same, sum_up, sum_term}
use Rattle.firing.specs.TakingBack.{links_into}

pub cond_le : (s t : Bool) (m : ℕ) → (s ≡ true → t ≡ true) → cond s m 0 ≤ cond t m 0
cond_le true t m p = rw (p refl) (omega arith)
cond_le false t m p = omega arith

cond_most : (s : Bool) (m : ℕ) → cond s m 0 ≤ m
cond_most true m = omega arith
cond_most false m = omega arith

module _ (b : Shape) where
  pub into_le : (S S' : ℕ → Bool) → ((u : ℕ) → u < b.sites → S u ≡ true → S' u ≡ true) → (v : ℕ) → links_into b S v ≤ links_into b S' v
  into_le S S' sub v = sum_up b.sites _ _ (λ u l. cond_le (S u) (S' u) (b.m v u) (sub u l))

  pub into_same : (S S' : ℕ → Bool) → ((u : ℕ) → u < b.sites → S u ≡ S' u) → (v : ℕ) → links_into b S v ≡ links_into b S' v
  into_same S S' same v = sum_same b.sites _ _ (λ u l. ap (λ s. cond s (b.m v u) 0) (same u l))

  pub into_has : (S : ℕ → Bool) (v u : ℕ) → u < b.sites → S u ≡ true → b.m v u ≤ links_into b S v
  into_has S v u l e = let p : cond (S u) (b.m v u) 0 ≤ links_into b S v = sum_term b.sites u (λ x. cond (S x) (b.m v x) 0) l in rw e at p

  pub into_most : (S : ℕ → Bool) (v : ℕ) → links_into b S v ≤ row_total b v
  into_most S v = sum_up b.sites _ _ (λ u l. cond_most (S u) (b.m v u))

  -- the links of v into S are those from S to v
  pub into_back : Sound b → (S : ℕ → Bool) (v : ℕ) → sum_below b.sites (λ u. cond (S u) (b.m u v) 0) ≡ links_into b S v
  into_back sound S v = sum_same b.sites _ _ (λ u l. ap (λ m. cond (S u) m 0) (sound.symmetric u v))
