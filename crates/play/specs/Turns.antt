-- What holds between two turns of a play.
use Rattle.std.specs.Prelude.{◌≡◌, ℕ, ◌+◌, List, length, Some, None, Ok, Err, Option, Result}
use Rattle.refusal.specs.declared.Refusal.{Refusal}
use Rattle.board.specs.Shape.{Shape}
use Rattle.bench.specs.declared.Phase.TheVariants.{Open}
use Rattle.bench.specs.declared.GrainDrop.{GrainDrop}
use Rattle.bench.specs.declared.Record.{Record}
use Rattle.bench.specs.declared.Ticket.{Ticket}
use Rattle.bench.specs.States.{State, ticket_number}
use Rattle.bench.specs.Avalanches.{Law}
use Rattle.play.specs.declared.Call.{Call}
use Rattle.play.specs.declared.Answer.{Answer}
use Rattle.play.specs.declared.Answer.TheVariants.{Refused}
use Rattle.play.specs.Plays.{Place}
use Rattle.play.specs.LeastCounts.{with_call, record_of, filed, AnswerRecorded}

-- the ticket in hand is that of the open avalanche, and an open bench has its ticket out
abbrev pub Agree : State → Option Ticket → Type 0
Agree x None = x.phase ≡ Open → ⊥
Agree x (Some t) = (x.phase ≡ Open) × (ticket_number t ≡ x.number)

abbrev pub place : State → Option Ticket → List Record → ℕ → Place
place x h es n = record { bench = x; ticket = h; entries = es; held = n }

-- a turn keeps the law, with the call's drop if it was accepted; what it records stands under the law
pub record Kept (s : Shape) (x : State) (c : Call) (a : Answer) (y : State) : Type 0 where
  pub law : (start : ℕ → ℕ) (ds : List GrainDrop) → Law s start ds x → Law s start (with_call c a ds) y
  pub recorded : (start : ℕ → ℕ) (ds : List GrainDrop) → Law s start ds x → AnswerRecorded s start ds a

-- what an answer files in record memory
abbrev pub Files : List Record → ℕ → Answer → List Record → ℕ → Type 0
Files m n a m' n' = (m' ≡ filed m n (record_of a)) × (n' ≡ n + length (record_of a))

-- no ticket is in hand
abbrev pub none_held : Option Ticket
none_held = None

-- a call gives a ticket only where none is in hand
abbrev pub GivesOne : Option Ticket → Result Ticket Refusal → Type 0
GivesOne h (Ok t) = h ≡ None
GivesOne h (Err e) = Unit {0}

-- a call that ends a ticket; a refusal hands it back
abbrev pub Ended : Result Answer (Refusal × Ticket) → Option Ticket → Answer → Type 0
Ended (Ok a) h b = (h ≡ None) × (b ≡ a)
Ended (Err e) h b = (h ≡ Some e.1) × (b ≡ Refused e.0)
