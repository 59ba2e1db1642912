-- Taking back: sets of sites, one firing of each of which can be undone.
use Rattle.std.specs.Prelude.{◌≡◌, ℕ, ◌+◌, ◌<◌, ◌≤◌, Bool, true, false, cond}
use Rattle.board.specs.Shape.{Shape, deg, sum_below}
use Rattle.firing.specs.Firing.{fires_from}

-- the links of v into the set S
abbrev pub links_into : Shape → (ℕ → Bool) → ℕ → ℕ
links_into b S v = sum_below b.sites (λ u. cond (S u) (b.m v u) 0)

-- v is lower than its links into S: with a firing of each site of S and of v itself taken back it would not fire
abbrev pub Lower : Shape → (ℕ → ℕ) → (ℕ → Bool) → ℕ → Type 0
Lower b h S v = h v + deg b v < fires_from b v + links_into b S v

-- v is at least as high as its links into S
abbrev pub AsHigh : Shape → (ℕ → ℕ) → (ℕ → Bool) → ℕ → Type 0
AsHigh b h S v = fires_from b v + links_into b S v ≤ h v + deg b v

-- S can be taken back from the counts w and their end h: each of its sites has fired, and is lower than its links into S
abbrev pub TakesBack : Shape → (ℕ → ℕ) → (ℕ → ℕ) → (ℕ → Bool) → Type 0
TakesBack b w h S = (v : ℕ) → v < b.sites → S v ≡ true → (1 ≤ w v) × Lower b h S v

-- S has no site of the board
abbrev pub Empty : Shape → (ℕ → Bool) → Type 0
Empty b S = (v : ℕ) → v < b.sites → S v ≡ false

-- S can be taken back, and each set that can is within it
pub record Largest (b : Shape) (w h : ℕ → ℕ) (S : ℕ → Bool) : Type 0 where
  pub back : TakesBack b w h S
  pub holds : (S' : ℕ → Bool) → TakesBack b w h S' → (v : ℕ) → v < b.sites → S' v ≡ true → S v ≡ true
