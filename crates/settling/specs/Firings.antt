-- What firing one site does, by its rows, and several firings of one site in a row.
use Rattle.std.specs.Prelude.{◌≡◌, ℕ, ◌+◌, ◌*◌, ◌<◌, ◌≤◌, Bool, true, false, ◌≢◌, ◌⊎◌, List, [], ◌∷◌, length, Some, None, Ok, Err, Option, Result}
use Rattle.refusal.specs.declared.Row.TheVariants as row
use Rattle.refusal.specs.declared.Part.{Part}
use Rattle.refusal.specs.declared.Refusal.{Refusal}
use Rattle.refusal.specs.Table.{Check, Passed, Refused}
use Rattle.board.specs.Shape.{Shape, deg, sum_below}
use Rattle.firing.specs.Firing.{at, CanFire, Still, Fires, Lowest}

-- all grains of a list of heights
abbrev pub grains : List ℕ → ℕ
grains xs = sum_below (length xs) (at xs)

-- a site of this degree and height can fire
abbrev pub Enough : ℕ → ℕ → Type 0
Enough d h = (1 ≤ d) × (d ≤ h)

-- all grains, or none where they are more than the limit
abbrev pub Weighs : List ℕ → ℕ → Option ℕ → Type 0
Weighs xs limit (Some s) = (s ≡ grains xs) × (s ≤ limit)
Weighs xs limit None = limit < grains xs

-- the lowest site that can fire, or none where no site can
abbrev pub LowestReady : Shape → (ℕ → ℕ) → Option ℕ → Type 0
LowestReady b h (Some v) = Lowest b (CanFire b h) v
LowestReady b h None = Still b h

-- v fires k times in a row: it gives its degree each time, and each other site gets its links to v
pub record FiresTimes (b : Shape) (v k : ℕ) (h h' : ℕ → ℕ) : Type 0 where
  pub gives : h' v + deg b v * k ≡ h v
  pub gets : (u : ℕ) → u < b.sites → u ≢ v → h' u ≡ h u + b.m v u * k

-- u takes part in a firing of v: it is v, or linked to it
abbrev pub Near : Shape → ℕ → ℕ → Type 0
Near b v u = (u ≡ v) ⊎ (0 < b.m v u)

-- no site that takes part in a firing of v is above 1,000,000, or some is
abbrev pub LightNear : Shape → List ℕ → ℕ → Bool → Type 0
LightNear b xs v true = (u : ℕ) → Near b v u → at xs u ≤ 1000000
LightNear b xs v false = (u : ℕ) × Near b v u × (1000000 < at xs u)

-- one firing of fitting and light heights: v is on the board, and can fire
abbrev pub site_checks : Shape → List ℕ → ℕ → List Check
site_checks b xs v =
    record { row = row.Site; when = λ p. (p ≡ v) × (b.sites ≤ v) }
    ∷ record { row = row.CannotFire; when = λ p. (p ≡ v) × (CanFire b (at xs) v → ⊥) }
    ∷ []

-- the heights xs become ys by one legal firing of v; or nothing changes
abbrev pub FiredLight : Shape → List ℕ → List ℕ → ℕ → Part → Result Unit Refusal → Type 0
FiredLight b xs ys v part (Ok _) = Passed (site_checks b xs v) × Fires b v (at xs) (at ys)
FiredLight b xs ys v part (Err e) = Refused (site_checks b xs v) part e × (ys ≡ xs)

-- one firing: as many heights as sites; at most 1,000,000 grains; v is on the board, and can fire
abbrev pub fire_checks : Shape → List ℕ → ℕ → List Check
fire_checks b xs v =
    record { row = row.Memory; when = λ p. (p ≡ 0) × (length xs ≢ b.sites) }
    ∷ record { row = row.Limit; when = λ p. (p ≡ 0) × (1000000 < grains xs) }
    ∷ site_checks b xs v

-- the heights xs become ys by one legal firing of v; or nothing changes
abbrev pub Fired : Shape → List ℕ → List ℕ → ℕ → Part → Result Unit Refusal → Type 0
Fired b xs ys v part (Ok _) = Passed (fire_checks b xs v) × Fires b v (at xs) (at ys)
Fired b xs ys v part (Err e) = Refused (fire_checks b xs v) part e × (ys ≡ xs)

-- one firing, as above, where no site that takes part is above 1,000,000
abbrev pub near_checks : Shape → List ℕ → ℕ → List Check
near_checks b xs v =
    record { row = row.Memory; when = λ p. (p ≡ 0) × (length xs ≢ b.sites) }
    ∷ record { row = row.Limit; when = λ p. (p ≡ 0) × LightNear b xs v false }
    ∷ site_checks b xs v

-- the heights xs become ys by one legal firing of v, judged by the sites that take part; or nothing changes
abbrev pub FiredNear : Shape → List ℕ → List ℕ → ℕ → Part → Result Unit Refusal → Type 0
FiredNear b xs ys v part (Ok _) = Passed (near_checks b xs v) × Fires b v (at xs) (at ys)
FiredNear b xs ys v part (Err e) = Refused (near_checks b xs v) part e × (ys ≡ xs)
