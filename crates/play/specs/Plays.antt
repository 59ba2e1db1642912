-- A list of calls on one bench, and its answers: each by the contract of the bench's own call.
use Rattle.std.specs.Prelude.{◌≡◌, ℕ, Bool, true, false, List, [], ◌∷◌, ◌++◌, Some, None, Ok, Err, Option, Result}
use Rattle.refusal.specs.declared.Row.TheVariants as row
use Rattle.refusal.specs.declared.Part.{Part}
use Rattle.refusal.specs.declared.Refusal.{Refusal}
use Rattle.board.specs.Shape.{Shape}
use Rattle.bench.specs.declared.Phase.TheVariants.{Shelved}
use Rattle.bench.specs.declared.Record.{Record}
use Rattle.bench.specs.declared.RunOutcome.{RunOutcome}
use Rattle.bench.specs.declared.Ticket.{Ticket}
use Rattle.bench.specs.States.{State, ticket_number, phased}
use Rattle.bench.specs.Answers as bench
use Rattle.play.specs.declared.Call.{Call}
use Rattle.play.specs.declared.Call.TheVariants.{Resume, Drop, Fire, Run, Wave, Close, Shelve}
use Rattle.play.specs.declared.Answer.{Answer}
use Rattle.play.specs.declared.Answer.TheVariants.{Opened, Fired, Ran, Waved, Closed, Put, Refused}

-- where a play stands: the bench, the ticket in hand, and record memory with its count
pub record Place : Type 0 where
  pub bench : State
  pub ticket : Option Ticket
  pub entries : List Record
  pub held : ℕ

-- each call's letter in a sheet, and whether an answer carries the call out
abbrev pub letter : Call → ℕ
letter Resume = 117
letter (Drop d) = 100
letter (Fire v) = 102
letter (Run k) = 114
letter Wave = 119
letter Close = 115
letter Shelve = 112

abbrev pub is_done : Answer → Bool
is_done (Opened n) = true
is_done (Fired v) = true
is_done (Ran o) = true
is_done (Waved k) = true
is_done (Closed r) = true
is_done (Put n) = true
is_done (Refused e) = false

-- the answers, by what the bench's calls reply
abbrev pub ticket_answer : Result Ticket Refusal → Answer
ticket_answer (Ok t) = Opened (ticket_number t)
ticket_answer (Err e) = Refused e

abbrev pub fire_answer : ℕ → Result (Unit {0}) Refusal → Answer
fire_answer v (Ok _) = Fired v
fire_answer v (Err e) = Refused e

abbrev pub run_answer : Result RunOutcome Refusal → Answer
run_answer (Ok o) = Ran o
run_answer (Err e) = Refused e

abbrev pub wave_answer : Result ℕ Refusal → Answer
wave_answer (Ok k) = Waved k
wave_answer (Err e) = Refused e

abbrev pub close_answer : Result Record (Refusal × Ticket) → Answer
close_answer (Ok r) = Closed r
close_answer (Err e) = Refused e.0

abbrev pub shelve_answer : Result ℕ (Refusal × Ticket) → Answer
shelve_answer (Ok n) = Put n
shelve_answer (Err e) = Refused e.0

-- the ticket in hand after a call that gives one, and after one that ends one
abbrev pub given : Option Ticket → Result Ticket Refusal → Option Ticket
given h (Ok t) = Some t
given h (Err e) = h

abbrev pub ended : {A : Type 0} → Result A (Refusal × Ticket) → Option Ticket
ended (Ok a) = None
ended (Err e) = Some e.1

-- close and shelve without a ticket
abbrev pub no_ticket : Part → Refusal
no_ticket part = record { row = row.Phase; place = 0; part = part }

-- record memory stays
abbrev pub Unfiled : Place → Place → Type 0
Unfiled p q = (q.entries ≡ p.entries) × (q.held ≡ p.held)

-- ticket and record memory stay
abbrev pub Aside : Place → Place → Type 0
Aside p q = (q.ticket ≡ p.ticket) × Unfiled p q

abbrev pub CloseTurn : Shape → Part → Place → Option Ticket → Answer → Place → Type 0
CloseTurn s part p None a q = (a ≡ Refused (no_ticket part)) × (q ≡ p)
CloseTurn s part p (Some t) a q =
    (r : Result Record (Refusal × Ticket)) × bench.Closed s p.bench q.bench t p.entries p.held q.entries q.held r × (a ≡ close_answer r) × (q.ticket ≡ ended r)

abbrev pub ShelveTurn : Shape → Part → Place → Option Ticket → Answer → Place → Type 0
ShelveTurn s part p None a q = (a ≡ Refused (no_ticket part)) × (q ≡ p)
ShelveTurn s part p (Some t) a q = (r : Result ℕ (Refusal × Ticket)) × bench.PutBy s p.bench q.bench t r × (a ≡ shelve_answer r) × (q.ticket ≡ ended r) × Unfiled p q

-- one call, on the board s, with work memory of so many waiting places and bytes: from p to q, with its answer
abbrev pub Turn : Shape → Part → ℕ → ℕ → Place → Call → Answer → Place → Type 0
Turn s part slots bytes p Resume a q = (r : Result Ticket Refusal) × bench.Resumed s p.bench q.bench r × (a ≡ ticket_answer r) × (q.ticket ≡ given p.ticket r) × Unfiled p q
Turn s part slots bytes p (Drop d) a q = (r : Result Ticket Refusal) × bench.Dropped s p.bench q.bench d r × (a ≡ ticket_answer r) × (q.ticket ≡ given p.ticket r) × Unfiled p q
Turn s part slots bytes p (Fire v) a q = (r : Result (Unit {0}) Refusal) × bench.Fired s p.bench q.bench v r × (a ≡ fire_answer v r) × Aside p q
Turn s part slots bytes p (Run k) a q = (r : Result RunOutcome Refusal) × bench.Ran s p.bench q.bench slots bytes k r × (a ≡ run_answer r) × Aside p q
Turn s part slots bytes p Wave a q = (r : Result ℕ Refusal) × bench.Waved s p.bench q.bench bytes r × (a ≡ wave_answer r) × Aside p q
Turn s part slots bytes p Close a q = CloseTurn s part p p.ticket a q
Turn s part slots bytes p Shelve a q = ShelveTurn s part p p.ticket a q

-- the calls in turn, each with its answer
pub data Plays (s : Shape) (part : Part) (slots bytes : ℕ) (p : Place) : List Call → List Answer → Place → Type 0 where
  none : Plays s part slots bytes p [] [] p
  turn : {cs : List Call} {ans : List Answer} {q r : Place} (c : Call) (a : Answer) → Plays s part slots bytes p cs ans q → Turn s part slots bytes q c a r → Plays s part slots bytes p (cs ++ c ∷ []) (ans ++ a ∷ []) r

-- a ticket that is still in hand at the end is ended by laying the bench aside
abbrev pub laid_aside : State → Option Ticket → State
laid_aside x None = x
laid_aside x (Some t) = phased x Shelved
