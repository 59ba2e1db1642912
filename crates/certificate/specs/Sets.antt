-- What the search for the largest set that can be taken back keeps: marks of sites (0: not in the set; 1: in the set, and waits to be looked at; 2: in the set, and looked at).
use Rattle.std.specs.Prelude.{◌≡◌, ℕ, ◌<◌, ◌≤◌, Bool, true, List, Some, None, Option, nat_lt}
use Rattle.board.specs.Shape.{Shape}
use Rattle.firing.specs.TakingBack.{Lower, TakesBack, Empty}
use Rattle.firing.specs.Certificates.{TakenBackAt}
use Rattle.settling.specs.Searches.{mark, Queued}

-- the set of the marked sites
abbrev pub marked : List ℕ → ℕ → Bool
marked fs u = nat_lt 0 (mark fs u)

-- the sites that wait are those below n that are marked 1, each once
abbrev pub Awaits : ℕ → List ℕ → List ℕ → Type 0
Awaits n es fs = Queued (λ v. v) n es fs

-- between two looks: marked sites have fired, those looked at are lower than their links into the set, and all that can be taken back is in it
pub record Narrowing (b : Shape) (w h : ℕ → ℕ) (es fs : List ℕ) : Type 0 where
  pub queued : Awaits b.sites es fs
  pub fired : (u : ℕ) → u < b.sites → 1 ≤ mark fs u → 1 ≤ w u
  pub lower : (u : ℕ) → u < b.sites → mark fs u ≡ 2 → Lower b h (marked fs) u
  pub covers : (S : ℕ → Bool) → TakesBack b w h S → (u : ℕ) → u < b.sites → S u ≡ true → marked fs u ≡ true

-- the lowest marked site of n, or none
abbrev pub LowestMarked : ℕ → List ℕ → Option ℕ → Type 0
LowestMarked n fs None = (u : ℕ) → u < n → mark fs u ≡ 0
LowestMarked n fs (Some v) = (v < n) × (1 ≤ mark fs v) × ((u : ℕ) → u < v → mark fs u ≡ 0)

-- the lowest site of the largest set that can be taken back, or none where only the empty set can
abbrev pub LowestBack : Shape → (ℕ → ℕ) → (ℕ → ℕ) → Option ℕ → Type 0
LowestBack b w h None = (S : ℕ → Bool) → TakesBack b w h S → Empty b S
LowestBack b w h (Some v) = TakenBackAt b w h v
