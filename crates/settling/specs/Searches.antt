-- What a search keeps: marks of sites, and which of them wait. 0: not found; 1: found, and waits; 2: visited.
use Rattle.std.specs.Prelude.{◌≡◌, ℕ, ◌+◌, ◌<◌, ◌≤◌, cond, List, [], ◌∷◌, Some, None, Option, ◌==◌, ◌≢◌, slice_index}
use Rattle.board.specs.Shape.{Shape}
use Rattle.firing.specs.Reaching.{Reaches}

-- the mark of u
abbrev pub mark : List ℕ → ℕ → ℕ
mark fs u = slice_index fs u

-- how often u is the site of a waiting entry
abbrev pub occurs : {T : Type 0} → (T → ℕ) → ℕ → List T → ℕ
occurs site u [] = 0
occurs site u (e ∷ es) = cond (u == site e) 1 0 + occurs site u es

-- the sites that wait are those below n that are marked 1, each once
pub record Queued {T : Type 0} (site : T → ℕ) (n : ℕ) (es : List T) (fs : List ℕ) : Type 0 where
  pub off : (u : ℕ) → n ≤ u → occurs site u es ≡ 0
  pub once : (u : ℕ) → u < n → mark fs u ≡ 1 → occurs site u es ≡ 1
  pub none : (u : ℕ) → u < n → (mark fs u ≢ 1) → occurs site u es ≡ 0
  pub most : (u : ℕ) → u < n → mark fs u ≤ 2

-- between two visits: what is found reaches the drain, what is linked to it is found, and so is what a visited site is linked to
pub record Searching {T : Type 0} (site : T → ℕ) (b : Shape) (es : List T) (fs : List ℕ) : Type 0 where
  pub queued : Queued site b.sites es fs
  pub sound : (u : ℕ) → u < b.sites → 1 ≤ mark fs u → Reaches b u
  pub drain : (u : ℕ) → u < b.sites → 1 ≤ b.s u → 1 ≤ mark fs u
  pub closed : (v u : ℕ) → v < b.sites → mark fs v ≡ 2 → 1 ≤ b.m v u → 1 ≤ mark fs u

-- the sites found are those that reach the drain
pub record Searched (b : Shape) (fs : List ℕ) : Type 0 where
  pub sound : (u : ℕ) → u < b.sites → 1 ≤ mark fs u → Reaches b u
  pub whole : (u : ℕ) → u < b.sites → Reaches b u → 1 ≤ mark fs u

-- the lowest of n sites that is not found, or none
abbrev pub LowestUnmarked : ℕ → List ℕ → Option ℕ → Type 0
LowestUnmarked n fs None = (u : ℕ) → u < n → 1 ≤ mark fs u
LowestUnmarked n fs (Some v) = (v < n) × (mark fs v ≡ 0) × ((u : ℕ) → u < v → 1 ≤ mark fs u)
