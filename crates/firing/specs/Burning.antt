-- Burning: from the drain inwards, round by round.
use Rattle.std.specs.Prelude.{◌≡◌, ℕ, suc, ◌<◌, ◌≤◌, Bool, true, ◌||◌, ◌↔◌, ◌==◌, nat_lt}
use Rattle.board.specs.Shape.{Shape}
use Rattle.firing.specs.Firing.{Still}
use Rattle.firing.specs.TakingBack.{AsHigh, Lower}

-- by the rounds r, with 0 for never, v is unburnt after k rounds
abbrev pub unburnt : (ℕ → ℕ) → ℕ → ℕ → Bool
unburnt r k v = r v == 0 || nat_lt k (r v)

-- r gives each site its round: in round k + 1 those burn that are unburnt and as high as their links to what is unburnt after k rounds
abbrev pub Rounds : Shape → (ℕ → ℕ) → (ℕ → ℕ) → Type 0
Rounds b h r = (v : ℕ) → v < b.sites → (k : ℕ) → (r v ≡ suc k) ↔ ((unburnt r k v ≡ true) × AsHigh b h (unburnt r k) v)

-- every site burns
abbrev pub AllBurn : Shape → (ℕ → ℕ) → Type 0
AllBurn b h = (r : ℕ → ℕ) × Rounds b h r × ((v : ℕ) → v < b.sites → 1 ≤ r v)

-- still heights from which every site burns
abbrev pub Recurrent : Shape → (ℕ → ℕ) → Type 0
Recurrent b h = Still b h × AllBurn b h

-- S stays: each of its sites is lower than its links into S
abbrev pub Stays : Shape → (ℕ → ℕ) → (ℕ → Bool) → Type 0
Stays b h S = (v : ℕ) → v < b.sites → S v ≡ true → Lower b h S v
