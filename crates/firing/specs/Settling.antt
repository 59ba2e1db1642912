-- Settling: what lists of counts do to heights, fired in whatever order, legally or not.
use Rattle.std.specs.Prelude.{◌≡◌, ℕ, ◌+◌, ◌*◌, ◌<◌, ◌≤◌}
use Rattle.board.specs.Shape.{Shape, deg, sum_below}
use Rattle.firing.specs.Firing.{fires_from}

-- the grains that come to v from its neighbours where each site u fires w u times
abbrev pub inflow : Shape → (ℕ → ℕ) → ℕ → ℕ
inflow b w v = sum_below b.sites (λ u. b.m u v * w u)

-- the grains that go to the drain where each site v fires w v times
abbrev pub drained : Shape → (ℕ → ℕ) → ℕ
drained b w = sum_below b.sites (λ v. b.s v * w v)

-- the counts w settle heights c: what c v becomes, possibly less than 0, is below the height from which v fires
abbrev pub Settles : Shape → (ℕ → ℕ) → (ℕ → ℕ) → Type 0
Settles b c w = (v : ℕ) → v < b.sites → c v + inflow b w v < fires_from b v + deg b v * w v

-- at v the height h v follows from c by the counts w
abbrev pub FollowsAt : Shape → (ℕ → ℕ) → (ℕ → ℕ) → (ℕ → ℕ) → ℕ → Type 0
FollowsAt b c w h v = h v + deg b v * w v ≡ c v + inflow b w v

-- the heights h follow from c by the counts w
abbrev pub Follows : Shape → (ℕ → ℕ) → (ℕ → ℕ) → (ℕ → ℕ) → Type 0
Follows b c w h = (v : ℕ) → v < b.sites → FollowsAt b c w h v

-- w is at most w' at each site
abbrev pub AtMost : Shape → (ℕ → ℕ) → (ℕ → ℕ) → Type 0
AtMost b w w' = (v : ℕ) → v < b.sites → w v ≤ w' v

-- w is w' at each site
abbrev pub Same : Shape → (ℕ → ℕ) → (ℕ → ℕ) → Type 0
Same b w w' = (v : ℕ) → v < b.sites → w v ≡ w' v

-- w settles c, and no list that settles c is smaller anywhere
pub record Least (b : Shape) (c w : ℕ → ℕ) : Type 0 where
  pub settles : Settles b c w
  pub least : (w' : ℕ → ℕ) → Settles b c w' → AtMost b w w'

-- h is settle(c): c after its least settling counts
abbrev pub Settled : Shape → (ℕ → ℕ) → (ℕ → ℕ) → Type 0
Settled b c h = (w : ℕ → ℕ) × Least b c w × Follows b c w h
