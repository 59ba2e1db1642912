-- Settling with a budget: what it leaves of heights, and its rows.
use Rattle.std.specs.Prelude.{◌≡◌, ℕ, ◌+◌, ◌<◌, ◌≤◌, true, false, ◌≢◌, ◌⊎◌, ◌↔◌, List, [], ◌∷◌, length, Ok, Err, Result}
use Rattle.refusal.specs.declared.Row.TheVariants as row
use Rattle.refusal.specs.declared.Part.{Part}
use Rattle.refusal.specs.declared.Refusal.{Refusal}
use Rattle.refusal.specs.Table.{Check, Passed, Refused}
use Rattle.board.specs.Shape.{Shape, sum_below}
use Rattle.board.specs.Limits.{Beyond}
use Rattle.firing.specs.Firing.{Still, Run}
use Rattle.firing.specs.Settling.{drained, Settles, Least, Settled}
use Rattle.firing.specs.Reaching.{AllLinked}
use Rattle.settling.specs.declared.settle.Outcome.{Outcome}
use Rattle.firing.specs.Firing.{at}
use Rattle.settling.specs.Firings.{grains}

-- k legal firings lead from heights c to heights h
pub record Ran (b : Shape) (c h : ℕ → ℕ) (k : ℕ) : Type 0 where
  pub counts : ℕ → ℕ
  pub run : Run b c h counts
  pub total : sum_below b.sites counts ≡ k

-- the counts cs are kept: those of k more firings of v make them cs'; an empty list keeps none
pub record Noted (v k : ℕ) (cs cs' : List ℕ) : Type 0 where
  pub long : length cs' ≡ length cs
  pub here : v < length cs → at cs' v ≡ at cs v + k
  pub others : (u : ℕ) → u ≢ v → at cs' u ≡ at cs u

-- k legal firings lead from heights c to heights h, and each count that is kept grows by its site's firings
pub record Tallied (b : Shape) (c h : ℕ → ℕ) (cs cs' : List ℕ) (k : ℕ) : Type 0 where
  pub ran : Ran b c h k
  pub long : length cs' ≡ length cs
  pub grown : (v : ℕ) → v < b.sites → v < length cs → at cs' v ≡ at cs v + ran.counts v

-- settling c with a budget leads to h by legal firings, and ends when still, or else when the budget is spent
pub record Ended (b : Shape) (c h : ℕ → ℕ) (budget : ℕ) (o : Outcome) : Type 0 where
  pub counts : ℕ → ℕ
  pub run : Run b c h counts
  pub total : sum_below b.sites counts ≡ o.fired
  pub within : o.fired ≤ budget
  pub is_still : o.still ≡ true ↔ Still b h
  pub is_spent : o.still ≡ false → o.fired ≡ budget
  -- grains are neither made nor lost
  pub kept : sum_below b.sites h + drained b counts ≡ sum_below b.sites c
  -- no list that settles c has fewer firings, and where the budget ends it each has more than the budget
  pub fewest : (w : ℕ → ℕ) → Settles b c w → o.fired ≤ sum_below b.sites w
  pub beyond : o.still ≡ false → (w : ℕ → ℕ) → Settles b c w → budget < sum_below b.sites w
  -- where every degree is at least 1, still heights are settle(c), by the least counts
  pub least : AllLinked b → o.still ≡ true → Least b c counts
  pub settled : AllLinked b → o.still ≡ true → Settled b c h

-- as many heights as sites, a waiting place and a mark for each; a budget of 1 to 1,000,000,000, at most 1,000,000 grains
abbrev pub settle_checks : ℕ → List ℕ → ℕ → ℕ → ℕ → List Check
settle_checks n xs slots bytes budget =
    record { row = row.Memory; when = λ p. (p ≡ 0) × ((length xs ≢ n) ⊎ ((slots < n) ⊎ (bytes < n))) }
    ∷ record { row = row.Limit; when = λ p. (p ≡ 0) × (Beyond 1 1000000000 budget ⊎ (1000000 < grains xs)) }
    ∷ []

-- memory and grains that settling needs
pub record Fit (n : ℕ) (xs : List ℕ) (slots bytes : ℕ) : Type 0 where
  pub sized : length xs ≡ n
  pub list : n ≤ slots
  pub marks : n ≤ bytes
  pub light : grains xs ≤ 1000000

-- no check refuses, or the first that does
abbrev pub Checked : ℕ → List ℕ → ℕ → ℕ → ℕ → Part → Result Unit Refusal → Type 0
Checked n xs slots bytes budget part (Ok _) = Passed (settle_checks n xs slots bytes budget) × Fit n xs slots bytes × (1 ≤ budget)
Checked n xs slots bytes budget part (Err e) = Refused (settle_checks n xs slots bytes budget) part e

-- the heights xs become ys; or nothing changes
abbrev pub SettledBy : Shape → List ℕ → List ℕ → ℕ → ℕ → ℕ → Part → Result Outcome Refusal → Type 0
SettledBy b xs ys slots bytes budget part (Ok o) = Passed (settle_checks b.sites xs slots bytes budget) × Ended b (at xs) (at ys) budget o
SettledBy b xs ys slots bytes budget part (Err e) = Refused (settle_checks b.sites xs slots bytes budget) part e × (ys ≡ xs)

-- the counts cs' are cs and the firings of a settling
abbrev pub Counted : (b : Shape) (c h : ℕ → ℕ) (budget : ℕ) (o : Outcome) → List ℕ → List ℕ → Type 0
Counted b c h budget o cs cs' = (e : Ended b c h budget o) × (length cs' ≡ length cs) × ((v : ℕ) → v < b.sites → v < length cs → at cs' v ≡ at cs v + e.counts v)

-- as settling, with a count for each site, each at most 1,000,000,000,000
abbrev pub count_checks : ℕ → List ℕ → List ℕ → ℕ → ℕ → ℕ → List Check
count_checks n xs cs slots bytes budget =
    record { row = row.Memory; when = λ p. (p ≡ 0) × ((length cs ≢ n) ⊎ ((length xs ≢ n) ⊎ ((slots < n) ⊎ (bytes < n)))) }
    ∷ record { row = row.Limit; when = λ p. (p ≡ 0) × (((u : ℕ) × (1000000000000 < at cs u)) ⊎ (Beyond 1 1000000000 budget ⊎ (1000000 < grains xs))) }
    ∷ []

-- the heights xs become ys and the counts cs become cs'; or nothing changes
abbrev pub SettledCounting : Shape → List ℕ → List ℕ → List ℕ → List ℕ → ℕ → ℕ → ℕ → Part → Result Outcome Refusal → Type 0
SettledCounting b xs ys cs cs' slots bytes budget part (Ok o) = Passed (count_checks b.sites xs cs slots bytes budget) × Counted b (at xs) (at ys) budget o cs cs'
SettledCounting b xs ys cs cs' slots bytes budget part (Err e) = Refused (count_checks b.sites xs cs slots bytes budget) part e × (ys ≡ xs) × (cs' ≡ cs)
