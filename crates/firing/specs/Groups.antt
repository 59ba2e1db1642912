-- The group: sums of still heights, and the identity.
use Rattle.std.specs.Prelude.{◌≡◌, ℕ, ◌+◌, ◌*◌, ◌<◌}
use Rattle.board.specs.Shape.{Shape}
use Rattle.firing.specs.Firing.{fires_from}
use Rattle.firing.specs.Settling.{Settled}

-- e is the sum of a and a': settle(a + a')
abbrev pub Sum : Shape → (ℕ → ℕ) → (ℕ → ℕ) → (ℕ → ℕ) → Type 0
Sum b a a' e = Settled b (λ v. a v + a' v) e

-- f is M: each site one below the height from which it fires
abbrev pub Full : Shape → (ℕ → ℕ) → Type 0
Full b f = (v : ℕ) → v < b.sites → f v + 1 ≡ fires_from b v

-- e is the identity: settle(2M − settle(2M))
pub record Identity (b : Shape) (e : ℕ → ℕ) : Type 0 where
  pub full : ℕ → ℕ
  pub settled : ℕ → ℕ
  pub difference : ℕ → ℕ
  pub is_full : Full b full
  pub is_settled : Settled b (λ v. 2 * full v) settled
  pub is_difference : (v : ℕ) → v < b.sites → difference v + settled v ≡ 2 * full v
  pub is : Settled b difference e
