-- Sums over sites, beyond those of the boards.
use Rattle.std.proofs.Common.{◌≡◌, ℕ, zero, suc, ◌+◌, ◌*◌, ◌<◌, ◌≤◌, ◌≢◌, subst, arith}
use native.Mathlib.Decide.{ℕ_discrete}
use Rattle.board.specs.Shape.{sum_below}
use Rattle.board.specs.Sums.{sum_same, sum_up}

pub sum_scale : (n : ℕ) (f : ℕ → ℕ) (k : ℕ) → sum_below n (λ u. f u * k) ≡ sum_below n f * k
unfolding sum_below
sum_scale zero f k = omega arith
sum_scale (suc n) f k = omega (arith, sum_scale n f k)

-- two functions that differ at v alone
pub sum_point : (n : ℕ) (f g : ℕ → ℕ) (v k : ℕ) → v < n → g v ≡ f v + k → ((u : ℕ) → u < n → u ≢ v → g u ≡ f u) → sum_below n g ≡ sum_below n f + k
unfolding sum_below
sum_point zero f g v k l at off = omega arith
sum_point (suc n) f g v k l at off =
    elim (ℕ_discrete v n) [
      | yes p ↦
          omega (arith, sum_same n g f (λ u l'. off u (omega arith) (omega arith)), subst (λ x. g x ≡ f x + k) p at)
      | no q ↦
          omega (arith, sum_point n f g v k (omega arith) at (λ u l' ne. off u (omega arith) ne), off n (omega arith) (omega arith))
    ]

-- at most everywhere, and less by k at v
pub sum_jump : (n : ℕ) (f g : ℕ → ℕ) (v k : ℕ) → v < n → f v + k ≤ g v → ((u : ℕ) → u < n → f u ≤ g u) → sum_below n f + k ≤ sum_below n g
unfolding sum_below
sum_jump zero f g v k l at le = absurd (omega arith)
sum_jump (suc n) f g v k l at le =
    elim (ℕ_discrete v n) [
      | yes p ↦ omega (arith, sum_up n f g (λ u l'. le u (omega arith)), subst (λ x. f x + k ≤ g x) p at)
      | no q ↦ omega (arith, sum_jump n f g v k (omega arith) at (λ u l'. le u (omega arith)), le n (omega arith))
    ]

-- a sum that is not 0 has a term that is not
pub sum_some : (n : ℕ) (f : ℕ → ℕ) → 1 ≤ sum_below n f → (u : ℕ) × (u < n) × (1 ≤ f u)
unfolding sum_below
sum_some zero f l = absurd (omega arith)
sum_some (suc n) f l =
    elim (ℕ_discrete (f n) 0) [
      | yes p ↦ let r = sum_some n f (omega arith) in (r.0, omega arith, r.2)
      | no q ↦ (n, omega arith, omega arith)
    ]
