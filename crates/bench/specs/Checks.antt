-- By which rows the bench's calls refuse, in which order, and with which place.
use Rattle.std.specs.Prelude.{◌≡◌, ℕ, ◌+◌, ◌<◌, ◌≤◌, ◌≢◌, ◌⊎◌, List, [], ◌∷◌, length, Some, None, Ok, Err, Result}
use Rattle.refusal.specs.declared.Row.TheVariants as row
use Rattle.refusal.specs.declared.Row.{Row}
use Rattle.refusal.specs.declared.Part.TheVariants as part
use Rattle.refusal.specs.declared.Refusal.{Refusal}
use Rattle.refusal.specs.Table.{Check, Passed, Refused}
use Rattle.board.specs.Shape.{Shape, sum_below}
use Rattle.board.specs.Limits.{Beyond}
use Rattle.firing.specs.Firing.{at, CanFire, Still, Lowest}
use Rattle.firing.specs.Reaching.{AllReach}
use Rattle.settling.specs.Firings.{grains}
use Rattle.settling.specs.Reaching.{Astray}
use Rattle.bench.specs.declared.Phase.{Phase}
use Rattle.bench.specs.declared.Phase.TheVariants.{Resting, Shelved}
use Rattle.bench.specs.declared.phases.Event.{Event}
use Rattle.bench.specs.declared.phases.Event.TheVariants.{Resume, Drop, Fire, Close, Shelve}
use Rattle.bench.specs.declared.GrainDrop.{GrainDrop}
use Rattle.bench.specs.Phases.{after}
use Rattle.bench.specs.States.{State}

-- the bench's site memory is not that of the board given
abbrev pub Misfits : Shape → State → Type 0
Misfits s x = length x.heights ≢ s.sites

-- the bench is in another phase than the event needs
abbrev pub wrong_phase : State → Event → Check
wrong_phase x e = record { row = row.Phase; when = λ p. (p ≡ 0) × (after x.phase e ≡ None) }

-- k is 1 if v can fire, and 0 if it cannot
abbrev pub ReadyAt : Shape → (ℕ → ℕ) → ℕ → ℕ → Type 0
ReadyAt s h v k = (CanFire s h v → k ≡ 1) × ((CanFire s h v → ⊥) → k ≡ 0)

-- f is 1 at each site that can fire, and 0 at every other
abbrev pub Ready : Shape → (ℕ → ℕ) → (ℕ → ℕ) → Type 0
Ready s h f = (v : ℕ) → v < s.sites → ReadyAt s h v (f v)

-- creation, over a start, memory for counts and for counts at the opening, waiting places and bytes
abbrev pub create_checks : Shape → List ℕ → List ℕ → List ℕ → ℕ → ℕ → ℕ → List Check
create_checks s start counts opened slots bytes ceiling =
    record { row = row.Memory; when = λ p. (p ≡ 0) × ((length start ≢ s.sites) ⊎ ((length counts ≢ s.sites) ⊎ ((length opened ≢ s.sites) ⊎ ((slots < s.sites) ⊎ (bytes < s.sites))))) }
    ∷ record { row = row.Limit; when = λ p. (p ≡ 0) × (Beyond 1 1000000000000 ceiling ⊎ (1000000 < grains start)) }
    ∷ record { row = row.NoDrain; when = λ p. Lowest s (Astray s) p }
    ∷ []

abbrev pub resume_checks : Shape → State → List Check
resume_checks s x = record { row = row.Memory; when = λ p. (p ≡ 0) × Misfits s x } ∷ wrong_phase x Resume ∷ []

-- start and drops are at most 1,000,000 grains together
abbrev pub drop_checks : Shape → State → GrainDrop → List Check
drop_checks s x d =
    record { row = row.Memory; when = λ p. (p ≡ 0) × Misfits s x }
    ∷ record { row = row.Limit; when = λ p. (p ≡ 0) × ((d.grains < 1) ⊎ (1000000 < x.grains + d.grains)) }
    ∷ record { row = row.Site; when = λ p. (p ≡ d.site) × (s.sites ≤ d.site) }
    ∷ wrong_phase x Drop
    ∷ []

abbrev pub fire_checks : Shape → State → ℕ → List Check
fire_checks s x v =
    record { row = row.Memory; when = λ p. (p ≡ 0) × Misfits s x }
    ∷ record { row = row.Site; when = λ p. (p ≡ v) × (s.sites ≤ v) }
    ∷ wrong_phase x Fire
    ∷ record { row = row.CannotFire; when = λ p. (p ≡ v) × (CanFire s (at x.heights) v → ⊥) }
    ∷ record { row = row.Ceiling; when = λ p. (p ≡ 0) × (x.ceiling ≤ x.fired) }
    ∷ []

abbrev pub run_checks : Shape → State → ℕ → ℕ → ℕ → List Check
run_checks s x slots bytes budget =
    record { row = row.Memory; when = λ p. (p ≡ 0) × (Misfits s x ⊎ ((slots < s.sites) ⊎ (bytes < s.sites))) }
    ∷ record { row = row.Limit; when = λ p. (p ≡ 0) × Beyond 1 1000000000 budget }
    ∷ wrong_phase x Fire
    ∷ []

abbrev pub wave_checks : Shape → State → ℕ → List Check
wave_checks s x bytes =
    record { row = row.Memory; when = λ p. (p ≡ 0) × (Misfits s x ⊎ (bytes < s.sites)) }
    ∷ wrong_phase x Fire
    ∷ record { row = row.Ceiling; when = λ p. (p ≡ 0) × ((f : ℕ → ℕ) × Ready s (at x.heights) f × (x.ceiling < x.fired + sum_below s.sites f)) }
    ∷ []

-- a ticket of the number t; record memory of `room` entries, of which `held` are taken
abbrev pub close_checks : Shape → State → ℕ → ℕ → ℕ → List Check
close_checks s x t room held =
    record { row = row.Memory; when = λ p. (p ≡ 0) × Misfits s x }
    ∷ wrong_phase x Close
    ∷ record { row = row.Ticket; when = λ p. (p ≡ 0) × (t ≢ x.number) }
    ∷ record { row = row.NotStill; when = λ p. Lowest s (CanFire s (at x.heights)) p }
    ∷ record { row = row.RecordsFull; when = λ p. (p ≡ 0) × (room ≤ held) }
    ∷ []

abbrev pub shelve_checks : Shape → State → ℕ → List Check
shelve_checks s x t =
    record { row = row.Memory; when = λ p. (p ≡ 0) × Misfits s x }
    ∷ wrong_phase x Shelve
    ∷ record { row = row.Ticket; when = λ p. (p ≡ 0) × (t ≢ x.number) }
    ∷ []

-- the bench's refusal by a row that gives no place
abbrev pub refusal_by : Row → Refusal
refusal_by r = record { row = r; place = 0; part = part.Bench }

-- the phase after an event; or a refusal, for the event needs another phase
abbrev pub PhaseAfter : Phase → Event → Result Phase Refusal → Type 0
PhaseAfter p e (Ok q) = Some q ≡ after p e
PhaseAfter p e (Err r) = (r ≡ refusal_by row.Phase) × (after p e ≡ None)

-- the board given has the bench's number of sites, or is refused
abbrev pub FitsBoard : Shape → State → Result (Unit {0}) Refusal → Type 0
FitsBoard s x (Ok _) = length x.heights ≡ s.sites
FitsBoard s x (Err r) = (r ≡ refusal_by row.Memory) × Misfits s x

-- a ticket of the number t is that of the bench's avalanche, or is refused
abbrev pub OwnsTicket : State → ℕ → Result (Unit {0}) Refusal → Type 0
OwnsTicket x t (Ok _) = t ≡ x.number
OwnsTicket x t (Err r) = (r ≡ refusal_by row.Ticket) × (t ≢ x.number)

-- no check of a close refuses, and the bench comes to rest; or the first check that does
abbrev pub MayClose : Shape → State → ℕ → ℕ → ℕ → Result Phase Refusal → Type 0
MayClose s x t room held (Ok q) = Passed (close_checks s x t room held) × (q ≡ Resting) × Still s (at x.heights) × (held < room)
MayClose s x t room held (Err r) = Refused (close_checks s x t room held) part.Bench r

-- no check of a shelving refuses, and the bench is laid aside; or the first check that does
abbrev pub MayShelve : Shape → State → ℕ → Result Phase Refusal → Type 0
MayShelve s x t (Ok q) = Passed (shelve_checks s x t) × (q ≡ Shelved)
MayShelve s x t (Err r) = Refused (shelve_checks s x t) part.Bench r

-- what a bench of g grains is made of
pub record Fresh (s : Shape) (start counts opened : List ℕ) (ceiling g : ℕ) : Type 0 where
  pub sized : length start ≡ s.sites
  pub counts_sized : length counts ≡ s.sites
  pub opened_sized : length opened ≡ s.sites
  pub low : ceiling ≤ 1000000000000
  pub grains_are : g ≡ grains start
  pub light : g ≤ 1000000
  pub reach : AllReach s

-- no check of a creation refuses, and the start has g grains; or the first check that does
abbrev pub MayCreate : Shape → List ℕ → List ℕ → List ℕ → ℕ → ℕ → ℕ → Result ℕ Refusal → Type 0
MayCreate s start counts opened slots bytes ceiling (Ok g) = Passed (create_checks s start counts opened slots bytes ceiling) × Fresh s start counts opened ceiling g
MayCreate s start counts opened slots bytes ceiling (Err r) = Refused (create_checks s start counts opened slots bytes ceiling) part.Bench r
