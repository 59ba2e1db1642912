-- Sums and the identity: checks and answers, by the definitions of the subject.
use Rattle.std.specs.Prelude.{◌≡◌, ℕ, ◌+◌, ◌*◌, ◌<◌, ◌≤◌, ◌⊎◌, List, [], ◌∷◌, ◌++◌, length, Some, None, Ok, Err, Option, Result, ◌≢◌}
use Rattle.refusal.specs.declared.Row.{Row}
use Rattle.refusal.specs.declared.Row.TheVariants as row
use Rattle.refusal.specs.declared.Part.TheVariants as part
use Rattle.refusal.specs.declared.Refusal.{Refusal}
use Rattle.refusal.specs.Table.{Check, Passed, Refused}
use Rattle.board.specs.Limits.{Beyond}
use Rattle.board.specs.Shape.{Shape, sum_below}
use Rattle.firing.specs.Firing.{at, Lowest, CanFire, Still}
use Rattle.firing.specs.Settling.{Least, Settled}
use Rattle.firing.specs.Groups.{Sum, Full, Identity}
use Rattle.firing.specs.Reaching.{AllReach}
use Rattle.settling.specs.Reaching.{Astray}

-- answer heights that are not n entries, or fewer waiting places or bytes than n
abbrev pub Short : ℕ → ℕ → ℕ → ℕ → Type 0
Short n answer waiting bytes = (answer ≢ n) ⊎ (waiting < n) ⊎ (bytes < n)

-- the least counts that settle c have more firings than the budget
abbrev pub Over : Shape → (ℕ → ℕ) → ℕ → Type 0
Over b c budget = (w : ℕ → ℕ) × Least b c w × (budget < sum_below b.sites w)

-- p is the lowest site at which a can fire, or where a is still the lowest at which a' can
abbrev pub Unstill : Shape → (ℕ → ℕ) → (ℕ → ℕ) → ℕ → Type 0
Unstill b a a' p = Lowest b (CanFire b a) p ⊎ (Still b a × Lowest b (CanFire b a') p)

-- such a site, or none: both are still
abbrev pub LowestUnstill : Shape → (ℕ → ℕ) → (ℕ → ℕ) → Option ℕ → Type 0
LowestUnstill b a a' (Some v) = Unstill b a a' v
LowestUnstill b a a' None = Still b a × Still b a'

-- f is M, s is settle(2M), and d is what s lacks of 2M
pub record Halfway (b : Shape) (f s d : ℕ → ℕ) : Type 0 where
  pub full : Full b f
  pub settled : Settled b (λ v. 2 * f v) s
  pub difference : (v : ℕ) → v < b.sites → d v + s v ≡ 2 * f v

-- of the two settlings of the identity, that of 2M or that of 2M − settle(2M), one is over the budget
abbrev pub IdentityOver : Shape → ℕ → Type 0
IdentityOver b budget =
    ((f : ℕ → ℕ) × Full b f × Over b (λ v. 2 * f v) budget) ⊎ ((f s d : ℕ → ℕ) × Halfway b f s d × Over b d budget)

-- the checks of a sum: memory, the budget, sites that do not reach the drain, heights that are not still, the settling
abbrev pub sum_checks : Shape → List ℕ → List ℕ → ℕ → ℕ → ℕ → ℕ → List Check
sum_checks b hs hs' answer waiting bytes budget =
    record { row = row.Memory; when = λ p. (p ≡ 0) × ((length hs ≢ b.sites) ⊎ (length hs' ≢ b.sites) ⊎ Short b.sites answer waiting bytes) }
    ∷ record { row = row.Limit; when = λ p. (p ≡ 0) × Beyond 1 1000000000 budget }
    ∷ record { row = row.NoDrain; when = λ p. Lowest b (Astray b) p }
    ∷ record { row = row.NotStill; when = λ p. Unstill b (at hs) (at hs') p }
    ∷ record { row = row.Budget; when = λ p. (p ≡ 0) × Over b (λ v. at hs v + at hs' v) budget }
    ∷ []

-- memory fits, the budget is within its limits, and all sites reach the drain
pub record Ready (b : Shape) (answer waiting bytes budget : ℕ) : Type 0 where
  pub sized : answer ≡ b.sites
  pub list : b.sites ≤ waiting
  pub marks : b.sites ≤ bytes
  pub some : 1 ≤ budget
  pub most : budget ≤ 1000000000
  pub reach : AllReach b

-- the checks that come before anything is written: memory, the budget, sites that do not reach the drain
abbrev pub first_checks : Shape → ℕ → ℕ → ℕ → ℕ → List Check
first_checks b answer waiting bytes budget =
    record { row = row.Memory; when = λ p. (p ≡ 0) × Short b.sites answer waiting bytes }
    ∷ record { row = row.Limit; when = λ p. (p ≡ 0) × Beyond 1 1000000000 budget }
    ∷ record { row = row.NoDrain; when = λ p. Lowest b (Astray b) p }
    ∷ []

-- the checks of the identity: the same, then the settlings
abbrev pub identity_checks : Shape → ℕ → ℕ → ℕ → ℕ → List Check
identity_checks b answer waiting bytes budget =
    first_checks b answer waiting bytes budget ++ record { row = row.Budget; when = λ p. (p ≡ 0) × IdentityOver b budget } ∷ []

-- heights that are all 0
abbrev pub Bare : ℕ → List ℕ → Type 0
Bare n xs = (v : ℕ) → v < n → at xs v ≡ 0

-- after a refusal by row r: where a budget was not enough the answer heights are all 0, and else they read as before
pub record Left (n : ℕ) (r : Row) (xs ys : List ℕ) : Type 0 where
  pub cleared : r ≡ row.Budget → Bare n ys
  pub same : (r ≢ row.Budget) → ys ≡ xs

-- a refusal by a budget
abbrev pub Spent : Refusal → Type 0
Spent e = e ≡ record { row = row.Budget; place = 0; part = part.Group }

-- none of these checks refuses, or the first that does
abbrev pub Checked : Shape → ℕ → ℕ → ℕ → ℕ → Result Unit Refusal → Type 0
Checked b answer waiting bytes budget (Ok _) = Ready b answer waiting bytes budget
Checked b answer waiting bytes budget (Err e) = Refused (first_checks b answer waiting bytes budget) part.Group e

-- the sum of hs and hs' stands in ys; or a refusal
abbrev pub Summed : Shape → List ℕ → List ℕ → List ℕ → List ℕ → ℕ → ℕ → ℕ → Result Unit Refusal → Type 0
Summed b hs hs' xs ys waiting bytes budget (Ok _) = Passed (sum_checks b hs hs' (length xs) waiting bytes budget) × Sum b (at hs) (at hs') (at ys)
Summed b hs hs' xs ys waiting bytes budget (Err e) = Refused (sum_checks b hs hs' (length xs) waiting bytes budget) part.Group e × Left b.sites e.row xs ys

-- the identity stands in ys; or a refusal
abbrev pub IdentityIs : Shape → List ℕ → List ℕ → ℕ → ℕ → ℕ → Result Unit Refusal → Type 0
IdentityIs b xs ys waiting bytes budget (Ok _) = Passed (identity_checks b (length xs) waiting bytes budget) × Identity b (at ys)
IdentityIs b xs ys waiting bytes budget (Err e) = Refused (identity_checks b (length xs) waiting bytes budget) part.Group e × Left b.sites e.row xs ys

-- settled within the budget; or the budget is not enough, and the heights are all 0
abbrev pub Within : Shape → ℕ → List ℕ → List ℕ → Result Unit Refusal → Type 0
Within b budget xs ys (Ok _) = Settled b (at xs) (at ys) × (Over b (at xs) budget → ⊥)
Within b budget xs ys (Err e) = Over b (at xs) budget × Bare b.sites ys × Spent e
