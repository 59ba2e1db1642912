-- Firing: the height from which a site can fire, one legal firing, and legal runs with their counts.
use Rattle.std.specs.Prelude.{◌≡◌, ℕ, ◌+◌, ◌<◌, ◌≤◌, ◌≢◌, List, slice_index}
use Rattle.board.specs.Shape.{Shape, deg}

-- a list as heights or counts: what stands at v
abbrev pub at : List ℕ → ℕ → ℕ
at xs v = slice_index xs v

-- the height from which v can fire: its degree
unfoldable pub fires_from : Shape → ℕ → ℕ
fires_from b v = deg b v

-- v has a link, and stands at least as high as it fires from
abbrev pub CanFire : Shape → (ℕ → ℕ) → ℕ → Type 0
CanFire b h v = (1 ≤ deg b v) × (fires_from b v ≤ h v)

-- no site can fire
abbrev pub Still : Shape → (ℕ → ℕ) → Type 0
Still b h = (v : ℕ) → v < b.sites → CanFire b h v → ⊥

-- one legal firing, of v, takes heights h to h': v gives its degree, each other site gets its links to v
pub record Fires (b : Shape) (v : ℕ) (h h' : ℕ → ℕ) : Type 0 where
  pub on : v < b.sites
  pub can : CanFire b h v
  pub gives : h' v + deg b v ≡ h v
  pub gets : (u : ℕ) → u < b.sites → u ≢ v → h' u ≡ h u + b.m v u

-- the counts w' are w and one firing of v
pub record Counts (b : Shape) (v : ℕ) (w w' : ℕ → ℕ) : Type 0 where
  pub one_more : w' v ≡ w v + 1
  pub others : (u : ℕ) → u < b.sites → u ≢ v → w' u ≡ w u

-- a legal run from heights c to heights h, in which each site v fires w v times
pub data Run (b : Shape) (c : ℕ → ℕ) : (ℕ → ℕ) → (ℕ → ℕ) → Type 0 where
  begin : {h w : ℕ → ℕ} → ((v : ℕ) → v < b.sites → h v ≡ c v) → ((v : ℕ) → v < b.sites → w v ≡ 0) → Run b c h w
  fire : {h h' w w' : ℕ → ℕ} (v : ℕ) → Run b c h w → Fires b v h h' → Counts b v w w' → Run b c h' w'

-- p is the lowest site of which P holds
pub record Lowest (b : Shape) (P : ℕ → Type 0) (p : ℕ) : Type 0 where
  pub on : p < b.sites
  pub holds : P p
  pub before : (u : ℕ) → u < p → P u → ⊥
