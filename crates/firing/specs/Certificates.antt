-- Certificates: what a start c, counts w and an end h show, and where they fail.
use Rattle.std.specs.Prelude.{◌≡◌, ℕ, Bool, true}
use Rattle.board.specs.Shape.{Shape}
use Rattle.firing.specs.Firing.{CanFire, Still, Lowest}
use Rattle.firing.specs.Settling.{FollowsAt, Follows}
use Rattle.firing.specs.TakingBack.{TakesBack, Empty, Largest}

-- the end follows and is still, and no nonempty set can be taken back
pub record Certified (b : Shape) (c w h : ℕ → ℕ) : Type 0 where
  pub follows : Follows b c w h
  pub still : Still b h
  pub none_back : (S : ℕ → Bool) → TakesBack b w h S → Empty b S

-- p is the lowest site at which the end does not follow
abbrev pub NotFollowingAt : Shape → (ℕ → ℕ) → (ℕ → ℕ) → (ℕ → ℕ) → ℕ → Type 0
NotFollowingAt b c w h p = Lowest b (λ v. FollowsAt b c w h v → ⊥) p

-- p is the lowest site at which the end can fire
abbrev pub EndFiresAt : Shape → (ℕ → ℕ) → ℕ → Type 0
EndFiresAt b h p = Lowest b (CanFire b h) p

-- p is the lowest site of the largest set that can be taken back
abbrev pub TakenBackAt : Shape → (ℕ → ℕ) → (ℕ → ℕ) → ℕ → Type 0
TakenBackAt b w h p = (S : ℕ → Bool) × Largest b w h S × Lowest b (λ v. S v ≡ true) p
