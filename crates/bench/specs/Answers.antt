-- What the bench's calls answer and leave: x is the bench before the call, y the bench after it, s the board given.
use Rattle.std.specs.Prelude.{◌≡◌, ℕ, ◌+◌, ◌<◌, ◌≤◌, cond, ◌⊎◌, List, [], ◌∷◌, length, None, Ok, Err, vec_items, Result, ◌==◌, nat_lt, slice_set}
use Rattle.refusal.specs.declared.Part.TheVariants as part
use Rattle.refusal.specs.declared.Refusal.{Refusal}
use Rattle.refusal.specs.Table.{Passed, Refused}
use Rattle.board.specs.Shape.{Shape, sum_below}
use Rattle.firing.specs.Firing as firing
use Rattle.firing.specs.Firing.{at, Run}
use Rattle.firing.specs.Settling.{drained, Settles, Least}
use Rattle.firing.specs.Reaching.{AllLinked}
use Rattle.settling.specs.Firings.{grains}
use Rattle.bench.specs.declared.Phase.TheVariants.{Resting, Open, Shelved}
use Rattle.bench.specs.declared.Word.{Word}
use Rattle.bench.specs.declared.Word.TheVariants.{Still, Ceiling, Budget}
use Rattle.bench.specs.declared.GrainDrop.{GrainDrop}
use Rattle.bench.specs.declared.Record.{Record}
use Rattle.bench.specs.declared.Ticket.{Ticket}
use Rattle.bench.specs.declared.SiteMemory.{SiteMemory}
use Rattle.bench.specs.declared.Bench.{Bench}
use Rattle.bench.specs.declared.RunOutcome.{RunOutcome}
use Rattle.bench.specs.States.{State, state, ticket_number, since, left, phased, dropped}
use Rattle.bench.specs.Avalanches.{Law, Opening, Recorded}
use Rattle.bench.specs.Checks.{Ready, create_checks, resume_checks, drop_checks, fire_checks, run_checks, wave_checks, close_checks, shelve_checks}

-- legal firings, w v of each site v, take an open bench from x to y; all else stays
pub record Moves (s : Shape) (x y : State) (w : ℕ → ℕ) : Type 0 where
  pub run : Run s (at x.heights) (at y.heights) w
  pub long : length y.heights ≡ length x.heights
  pub counted : (v : ℕ) → v < s.sites → at y.counts v ≡ at x.counts v + w v
  pub counts_long : length y.counts ≡ length x.counts
  pub fired : y.fired ≡ x.fired + sum_below s.sites w
  pub drains : y.drained ≡ x.drained + drained s w
  pub was_open : x.phase ≡ Open
  pub is_open : y.phase ≡ Open
  pub opened : y.opened ≡ x.opened
  pub number : y.number ≡ x.number
  pub last : y.last ≡ x.last
  pub grains : y.grains ≡ x.grains
  pub drained_before : y.drained_before ≡ x.drained_before
  pub ceiling : y.ceiling ≡ x.ceiling

-- one firing, of v
abbrev pub once : ℕ → ℕ → ℕ
once v u = cond (u == v) 1 0

-- a bench just created: shelved on avalanche 0, nothing fired
pub record Begun (start : List ℕ) (ceiling : ℕ) (x : State) : Type 0 where
  pub heights : x.heights ≡ start
  pub counts : (v : ℕ) → at x.counts v ≡ 0
  pub counts_long : length x.counts ≡ length start
  pub opened : (v : ℕ) → at x.opened v ≡ 0
  pub opened_long : length x.opened ≡ length start
  pub phase : x.phase ≡ Shelved
  pub number : x.number ≡ 0
  pub last : x.last ≡ None
  pub grains_are : x.grains ≡ grains start
  pub drained_is : x.drained ≡ 0
  pub drained_before : x.drained_before ≡ 0
  pub fired : x.fired ≡ 0
  pub ceiling_is : x.ceiling ≡ ceiling

-- creation on a start: a bench, which stands under the law; or a refusal, which hands the site memory back as it was
abbrev pub Created : Shape → SiteMemory → ℕ → ℕ → ℕ → Result Bench (Refusal × SiteMemory) → Type 0
Created s m slots bytes ceiling (Ok b) =
    Passed (create_checks s (vec_items m.heights) (vec_items m.counts) (vec_items m.opened) slots bytes ceiling)
    × Begun (vec_items m.heights) ceiling (state b)
    × Law s (at (vec_items m.heights)) [] (state b)
Created s m slots bytes ceiling (Err e) =
    Refused (create_checks s (vec_items m.heights) (vec_items m.counts) (vec_items m.opened) slots bytes ceiling) part.Bench e.0
    × (e.1 ≡ m)

-- resume: the ticket of the same avalanche
abbrev pub Resumed : Shape → State → State → Result Ticket Refusal → Type 0
Resumed s x y (Ok t) = Passed (resume_checks s x) × (y ≡ phased x Open) × (ticket_number t ≡ x.number)
Resumed s x y (Err e) = Refused (resume_checks s x) part.Bench e × (y ≡ x)

-- drop: a new avalanche and its ticket
abbrev pub Dropped : Shape → State → State → GrainDrop → Result Ticket Refusal → Type 0
Dropped s x y d (Ok t) = Passed (drop_checks s x d) × (y ≡ dropped x d) × (ticket_number t ≡ x.number + 1)
Dropped s x y d (Err e) = Refused (drop_checks s x d) part.Bench e × (y ≡ x)

-- the accepted drops with this one, if it is accepted
abbrev pub with_drop : Result Ticket Refusal → GrainDrop → List GrainDrop → List GrainDrop
with_drop (Ok t) d ds = d ∷ ds
with_drop (Err e) d ds = ds

-- fire: one legal firing of v
abbrev pub Fired : Shape → State → State → ℕ → Result (Unit {0}) Refusal → Type 0
Fired s x y v (Ok _) = Passed (fire_checks s x v) × Moves s x y (once v)
Fired s x y v (Err e) = Refused (fire_checks s x v) part.Bench e × (y ≡ x)

-- k is the smallest of the budget, the firings left, and the least sum that settles c: none of them is below it, and it is one of them
pub record Number (s : Shape) (c : ℕ → ℕ) (budget left k : ℕ) : Type 0 where
  pub in_budget : k ≤ budget
  pub in_left : k ≤ left
  pub in_least : (w : ℕ → ℕ) → Settles s c w → k ≤ sum_below s.sites w
  pub is_one : AllLinked s → (k ≡ budget) ⊎ ((k ≡ left) ⊎ ((w : ℕ → ℕ) × Least s c w × (sum_below s.sites w ≡ k)))

-- the word of a run of k firings: still if no site can fire, else ceiling if it is reached, else budget
abbrev pub WordIs : Shape → State → ℕ → ℕ → Word → Type 0
WordIs s y budget k Still = firing.Still s (at y.heights)
WordIs s y budget k Ceiling = (firing.Still s (at y.heights) → ⊥) × (y.fired ≡ y.ceiling)
WordIs s y budget k Budget = (firing.Still s (at y.heights) → ⊥) × (y.fired < y.ceiling) × (k ≡ budget)

-- run: k legal firings, until still, at the ceiling or at the budget, and not earlier
pub record RunDone (s : Shape) (x y : State) (budget k : ℕ) (word : Word) : Type 0 where
  pub counts : ℕ → ℕ
  pub moves : Moves s x y counts
  pub total : sum_below s.sites counts ≡ k
  pub number : Number s (at x.heights) budget (left x) k
  pub says : WordIs s y budget k word

abbrev pub Ran : Shape → State → State → ℕ → ℕ → ℕ → Result RunOutcome Refusal → Type 0
Ran s x y slots bytes budget (Ok r) = Passed (run_checks s x slots bytes budget) × RunDone s x y budget r.fired r.word
Ran s x y slots bytes budget (Err e) = Refused (run_checks s x slots bytes budget) part.Bench e × (y ≡ x)

-- wave: one firing of each site that can fire on entry; how many
abbrev pub Waved : Shape → State → State → ℕ → Result ℕ Refusal → Type 0
Waved s x y bytes (Ok k) = Passed (wave_checks s x bytes) × ((f : ℕ → ℕ) × Ready s (at x.heights) f × Moves s x y f × (sum_below s.sites f ≡ k))
Waved s x y bytes (Err e) = Refused (wave_checks s x bytes) part.Bench e × (y ≡ x)

-- the record of an avalanche: number and drop; size, the firings; area, the sites that fired; the grains drained
pub record Written (x : State) (r : Record) : Type 0 where
  pub number : r.number ≡ x.number
  pub dropped : r.dropped ≡ x.last
  pub size : r.size ≡ sum_below (length x.heights) (since x)
  pub area : r.area ≡ sum_below (length x.heights) (λ v. cond (nat_lt 0 (since x v)) 1 0)
  pub drained : r.drained + x.drained_before ≡ x.drained

-- close: a record, written into record memory behind those that it holds
abbrev pub Closed : Shape → State → State → Ticket → List Record → ℕ → List Record → ℕ → Result Record (Refusal × Ticket) → Type 0
Closed s x y t m held m' held' (Ok r) =
    Passed (close_checks s x (ticket_number t) (length m) held) × (y ≡ phased x Resting) × Written x r × (m' ≡ slice_set m held r) × (held' ≡ held + 1)
Closed s x y t m held m' held' (Err e) =
    Refused (close_checks s x (ticket_number t) (length m) held) part.Bench e.0 × (y ≡ x) × (e.1 ≡ t) × (m' ≡ m) × (held' ≡ held)

-- on the bench's own board a record's figures are those of the least counts that settle its avalanche's opening heights, and these counts are the firings since the opening
abbrev pub RecordLaw : Shape → State → Result Record (Refusal × Ticket) → Type 0
RecordLaw s x (Ok r) =
    (start : ℕ → ℕ) (ds : List GrainDrop) → Law s start ds x → Recorded s start ds r × ((o : ℕ → ℕ) × Opening s start ds o × Least s o (since x))
RecordLaw s x (Err e) = Unit {0}

-- shelve: the ticket is ended, without a record
abbrev pub PutBy : Shape → State → State → Ticket → Result ℕ (Refusal × Ticket) → Type 0
PutBy s x y t (Ok n) = Passed (shelve_checks s x (ticket_number t)) × (y ≡ phased x Shelved) × (n ≡ x.number)
PutBy s x y t (Err e) = Refused (shelve_checks s x (ticket_number t)) part.Bench e.0 × (y ≡ x) × (e.1 ≡ t)
