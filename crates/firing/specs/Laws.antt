-- The laws of firing and settling, each over every board.
use Rattle.std.specs.Prelude.{◌≡◌, ℕ, ◌+◌, min}
use Rattle.board.specs.Shape.{Shape, Sound, sum_below}
use Rattle.firing.specs.Firing.{Still, Run}
use Rattle.firing.specs.Settling.{drained, Settles, Follows, AtMost, Same, Least, Settled}
use Rattle.firing.specs.Reaching.{AllReach, AllLinked}
use Rattle.firing.specs.Groups.{Identity}

-- after a legal run the heights follow from the start by the counts
abbrev pub RunFollows : Type 0
RunFollows = (b : Shape) → Sound b → (c h w : ℕ → ℕ) → Run b c h w → Follows b c w h

-- where heights follow by counts, heights and what the counts drained are the start's grains: none is made, none lost
abbrev pub Conserves : Type 0
Conserves = (b : Shape) → Sound b → (c h w : ℕ → ℕ) → Follows b c w h → sum_below b.sites h + drained b w ≡ sum_below b.sites c

-- no legal run fires a site more often than a settling list, legal or not
abbrev pub LeastAction : Type 0
LeastAction = (b : Shape) → Sound b → (c h w w' : ℕ → ℕ) → Run b c h w → Settles b c w' → AtMost b w w'

-- what settles more grains settles fewer
abbrev pub FewerSettle : Type 0
FewerSettle = (b : Shape) → Sound b → (c c' w : ℕ → ℕ) → AtMost b c c' → Settles b c' w → Settles b c w

-- a legal run that ends still has the least counts that settle
abbrev pub RunLeast : Type 0
RunLeast = (b : Shape) → Sound b → AllLinked b → (c h w : ℕ → ℕ) → Run b c h w → Still b h → Least b c w

-- two legal runs that end still agree in counts and heights
abbrev pub RunsAgree : Type 0
RunsAgree = (b : Shape) → Sound b → AllLinked b → (c h w h' w' : ℕ → ℕ) → Run b c h w → Still b h → Run b c h' w' → Still b h' → Same b w w' × Same b h h'

-- the smaller of two settling lists, site by site, settles
abbrev pub MinSettles : Type 0
MinSettles = (b : Shape) → Sound b → (c w w' : ℕ → ℕ) → Settles b c w → Settles b c w' → Settles b c (λ v. min (w v) (w' v))

-- there is at most one least list
abbrev pub LeastOnce : Type 0
LeastOnce = (b : Shape) → Sound b → (c w w' : ℕ → ℕ) → Least b c w → Least b c w' → Same b w w'

-- where all sites reach the drain every degree is at least 1
abbrev pub ReachLinked : Type 0
ReachLinked = (b : Shape) → Sound b → AllReach b → AllLinked b

-- where all sites reach the drain some list settles any heights
abbrev pub SettlingExists : Type 0
SettlingExists = (b : Shape) → Sound b → AllReach b → (c : ℕ → ℕ) → (w : ℕ → ℕ) × Settles b c w

-- hence a least one, to which a legal run leads
abbrev pub LeastExists : Type 0
LeastExists = (b : Shape) → Sound b → AllReach b → (c : ℕ → ℕ) → (w : ℕ → ℕ) × Least b c w × ((h : ℕ → ℕ) × Run b c h w × Still b h)

-- settled heights exist, are still, and are unique
abbrev pub SettledOnce : Type 0
SettledOnce = (b : Shape) → Sound b → AllReach b → (c : ℕ → ℕ) → (h : ℕ → ℕ) × Settled b c h × Still b h × ((h' : ℕ → ℕ) → Settled b c h' → Same b h h')

-- where all sites reach the drain there is an identity, and only one
abbrev pub IdentityOnce : Type 0
IdentityOnce = (b : Shape) → Sound b → AllReach b → (e : ℕ → ℕ) × Identity b e × ((e' : ℕ → ℕ) → Identity b e' → Same b e e')
