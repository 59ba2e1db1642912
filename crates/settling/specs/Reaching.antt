-- The answer of the search for the drain.
use Rattle.std.specs.Prelude.{◌≡◌, ℕ, ◌<◌, Bool, true, false, ◌⊎◌, List, [], ◌∷◌, Some, None, Ok, Err, Option, Result}
use Rattle.refusal.specs.declared.Row.TheVariants as row
use Rattle.refusal.specs.declared.Part.{Part}
use Rattle.refusal.specs.declared.Refusal.{Refusal}
use Rattle.refusal.specs.Table.{Check, Passed, Refused}
use Rattle.board.specs.Shape.{Shape}
use Rattle.firing.specs.Firing.{Lowest}
use Rattle.firing.specs.Reaching.{Reaches, AllReach}

-- true says P, and false that P does not hold
abbrev pub Says : Bool → Type 0 → Type 0
Says true P = P
Says false P = P → ⊥

-- v does not reach the drain
abbrev pub Astray : Shape → ℕ → Type 0
Astray b v = Reaches b v → ⊥

-- the lowest site that does not reach the drain, or none: all do
abbrev pub LowestAstray : Shape → Option ℕ → Type 0
LowestAstray b None = AllReach b
LowestAstray b (Some v) = Lowest b (Astray b) v

-- work memory: a waiting list of w entries and f bytes are enough for n sites
abbrev pub work_checks : ℕ → ℕ → ℕ → List Check
work_checks n w f = record { row = row.Memory; when = λ p. (p ≡ 0) × ((w < n) ⊎ (f < n)) } ∷ []

-- the search over a waiting list of w entries and f bytes
abbrev pub ReachIs : Shape → ℕ → ℕ → Part → Result (Option ℕ) Refusal → Type 0
ReachIs b w f part (Ok r) = Passed (work_checks b.sites w f) × LowestAstray b r
ReachIs b w f part (Err e) = Refused (work_checks b.sites w f) part e
