-- A whole play: which answers it gives, and the law of least count.
use Rattle.std.specs.Prelude.{◌≡◌, ℕ, ◌+◌, ◌≢◌, ◌⊎◌, List, [], length, None, Ok, Err, vec_items, Result}
use Rattle.refusal.specs.declared.Row.TheVariants as row
use Rattle.refusal.specs.declared.Part.{Part}
use Rattle.refusal.specs.declared.Refusal.{Refusal}
use Rattle.refusal.specs.Table.{Passed}
use Rattle.board.specs.Shape.{Shape}
use Rattle.firing.specs.Firing.{at}
use Rattle.bench.specs.declared.Record.{Record}
use Rattle.bench.specs.declared.SiteMemory.{SiteMemory}
use Rattle.bench.specs.declared.Bench.{Bench}
use Rattle.bench.specs.States.{State, state}
use Rattle.bench.specs.Avalanches.{Law}
use Rattle.bench.specs.Checks.{create_checks}
use Rattle.bench.specs.Answers.{Begun, Created}
use Rattle.play.specs.declared.Call.{Call}
use Rattle.play.specs.declared.Answer.{Answer}
use Rattle.play.specs.Plays.{Place, Plays, laid_aside}
use Rattle.play.specs.LeastCounts.{accepted, records_of, filed, AllRecorded, LeastCount}
use Rattle.play.specs.Turns.{place}

-- the calls take the bench from x to y, with these answers; record memory goes from m, n to m', n'
pub record PlayedOn (s : Shape) (part : Part) (slots bytes : ℕ) (x y : State) (cs : List Call) (ans : List Answer) (m : List Record) (n : ℕ) (m' : List Record) (n' : ℕ) : Type 0 where
  pub at_end : Place
  pub plays : Plays s part slots bytes (place x None m n) cs ans at_end
  pub aside : y ≡ laid_aside at_end.bench at_end.ticket
  pub entries_are : at_end.entries ≡ m'
  pub held_is : at_end.held ≡ n'
  pub law : Law s (at x.heights) (accepted cs ans []) y
  pub recorded : AllRecorded s (at x.heights) cs ans []
  pub entries : m' ≡ filed m n (records_of ans)
  pub held : n' ≡ n + length (records_of ans)

-- every answer, by the contracts of the bench's calls: from a bench just created, turn by turn
pub record Answered (s : Shape) (part : Part) (slots bytes : ℕ) (start : List ℕ) (ceiling : ℕ) (y : State) (cs : List Call) (ans : List Answer) (m : List Record) (n : ℕ) (m' : List Record) (n' : ℕ) : Type 0 where
  pub fresh : State
  pub begun : Begun start ceiling fresh
  pub at_end : Place
  pub plays : Plays s part slots bytes (place fresh None m n) cs ans at_end
  pub aside : y ≡ laid_aside at_end.bench at_end.ticket
  pub entries : at_end.entries ≡ m'
  pub held : at_end.held ≡ n'

-- a play: creation is not refused, and every call is answered; or the answers are not as many as the calls, or creation is refused, and all memory stays
abbrev pub Played : Shape → Part → ℕ → ℕ → SiteMemory → ℕ → List Call → List Answer → List Answer → List Record → ℕ → List Record → ℕ → Result Bench (Refusal × SiteMemory) → Type 0
Played s part slots bytes memory ceiling cs ans ans' m n m' n' (Ok b) =
    (length ans ≡ length cs)
    × Passed (create_checks s (vec_items memory.heights) (vec_items memory.counts) (vec_items memory.opened) slots bytes ceiling)
    × Answered s part slots bytes (vec_items memory.heights) ceiling (state b) cs ans' m n m' n'
Played s part slots bytes memory ceiling cs ans ans' m n m' n' (Err e) =
    (((length ans ≢ length cs) × (e.0 ≡ record { row = row.Memory; place = 0; part = part })) ⊎ ((length ans ≡ length cs) × Created s memory slots bytes ceiling (Err e)))
    × (e.1 ≡ memory)
    × (ans' ≡ ans)
    × (m' ≡ m)
    × (n' ≡ n)

-- the law of least count for the bench in the caller's hands and for every record; record memory holds the records of the accepted closes, and every other entry stays
abbrev pub LeastCounts : Shape → SiteMemory → List Call → List Answer → List Record → ℕ → List Record → ℕ → Result Bench (Refusal × SiteMemory) → Type 0
LeastCounts s memory cs ans m n m' n' (Ok b) = LeastCount s (at (vec_items memory.heights)) cs ans (state b) × (m' ≡ filed m n (records_of ans)) × (n' ≡ n + length (records_of ans))
LeastCounts s memory cs ans m n m' n' (Err e) = Unit {0}
