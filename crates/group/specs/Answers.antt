-- The answers of the group's calls, by the definitions of the subject.
use Rattle.std.specs.Prelude.{◌≡◌, ℕ, ◌<◌, Bool, true, ◌⊎◌, ◌↔◌, List, [], ◌∷◌, length, Ok, Err, Result, ◌≢◌}
use Rattle.refusal.specs.declared.Row.TheVariants as row
use Rattle.refusal.specs.declared.Part.TheVariants as part
use Rattle.refusal.specs.declared.Refusal.{Refusal}
use Rattle.refusal.specs.Table.{Check, Passed, Refused}
use Rattle.board.specs.Shape.{Shape}
use Rattle.firing.specs.Firing.{Lowest, CanFire}
use Rattle.firing.specs.Burning.{Rounds, Recurrent}
use Rattle.settling.specs.Reaching.{Astray}
use Rattle.firing.specs.Firing.{at}

-- heights and rounds are not n entries each, or the waiting list or the bytes are fewer
abbrev pub Unfit : ℕ → ℕ → ℕ → ℕ → ℕ → Type 0
Unfit n heights rounds waiting bytes = (heights ≢ n) ⊎ (rounds ≢ n) ⊎ (waiting < n) ⊎ (bytes < n)

-- the checks of burning: memory, sites that do not reach the drain, heights that are not still
abbrev pub burn_checks : Shape → List ℕ → ℕ → ℕ → ℕ → List Check
burn_checks b hs rounds waiting bytes =
    record { row = row.Memory; when = λ p. (p ≡ 0) × Unfit b.sites (length hs) rounds waiting bytes }
    ∷ record { row = row.NoDrain; when = λ p. Lowest b (Astray b) p }
    ∷ record { row = row.NotStill; when = λ p. Lowest b (CanFire b (at hs)) p }
    ∷ []

-- each site's round, or 0, and whether the heights are recurrent; or a refusal, and the rounds read as before
abbrev pub Burned : Shape → List ℕ → List ℕ → List ℕ → ℕ → ℕ → Result Bool Refusal → Type 0
Burned b hs rs rs' waiting bytes (Ok all) =
    Passed (burn_checks b hs (length rs) waiting bytes) × Rounds b (at hs) (at rs') × ((all ≡ true) ↔ Recurrent b (at hs))
Burned b hs rs rs' waiting bytes (Err e) = Refused (burn_checks b hs (length rs) waiting bytes) part.Group e × (rs' ≡ rs)
