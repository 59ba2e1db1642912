-- The law of least count, for a whole list of calls: what heights, counts and records are by the start, the calls and the answers.
use Rattle.std.specs.Prelude.{ℕ, ◌+◌, List, [], ◌∷◌, ◌++◌, slice_set}
use Rattle.board.specs.Shape.{Shape}
use Rattle.firing.specs.Firing.{at}
use Rattle.firing.specs.Settling.{Settles, Follows, AtMost}
use Rattle.bench.specs.declared.GrainDrop.{GrainDrop}
use Rattle.bench.specs.declared.Record.{Record}
use Rattle.bench.specs.States.{State}
use Rattle.bench.specs.Avalanches.{loaded, Recorded}
use Rattle.play.specs.declared.Call.{Call}
use Rattle.play.specs.declared.Call.TheVariants.{Resume, Drop, Fire, Run, Wave, Close, Shelve}
use Rattle.play.specs.declared.Answer.{Answer}
use Rattle.play.specs.declared.Answer.TheVariants.{Opened, Fired, Ran, Waved, Closed, Put, Refused}

-- the accepted drops with that of this call, if it is a drop that was accepted; the newest comes first
abbrev pub with_call : Call → Answer → List GrainDrop → List GrainDrop
with_call Resume a ds = ds
with_call (Drop d) (Opened n) ds = d ∷ ds
with_call (Drop d) (Fired v) ds = ds
with_call (Drop d) (Ran o) ds = ds
with_call (Drop d) (Waved k) ds = ds
with_call (Drop d) (Closed r) ds = ds
with_call (Drop d) (Put n) ds = ds
with_call (Drop d) (Refused e) ds = ds
with_call (Fire v) a ds = ds
with_call (Run k) a ds = ds
with_call Wave a ds = ds
with_call Close a ds = ds
with_call Shelve a ds = ds

-- the accepted drops of a list of calls, after those of ds
abbrev pub accepted : List Call → List Answer → List GrainDrop → List GrainDrop
accepted [] ans ds = ds
accepted (c ∷ cs) [] ds = ds
accepted (c ∷ cs) (a ∷ ans) ds = accepted cs ans (with_call c a ds)

-- the record of an accepted close
abbrev pub record_of : Answer → List Record
record_of (Opened n) = []
record_of (Fired v) = []
record_of (Ran o) = []
record_of (Waved k) = []
record_of (Closed r) = r ∷ []
record_of (Put n) = []
record_of (Refused e) = []

-- the records rs, one after the other, in memory m from entry n on; every other entry stays
abbrev pub filed : List Record → ℕ → List Record → List Record
filed m n [] = m
filed m n (r ∷ rs) = filed (slice_set m n r) (n + 1) rs

-- the records of all accepted closes, the oldest first
abbrev pub records_of : List Answer → List Record
records_of [] = []
records_of (a ∷ ans) = record_of a ++ records_of ans

-- what an answer records is the avalanche that the newest of the drops ds opened
abbrev pub AnswerRecorded : Shape → (ℕ → ℕ) → List GrainDrop → Answer → Type 0
AnswerRecorded s start ds (Opened n) = Unit {0}
AnswerRecorded s start ds (Fired v) = Unit {0}
AnswerRecorded s start ds (Ran o) = Unit {0}
AnswerRecorded s start ds (Waved k) = Unit {0}
AnswerRecorded s start ds (Closed r) = Recorded s start ds r
AnswerRecorded s start ds (Put n) = Unit {0}
AnswerRecorded s start ds (Refused e) = Unit {0}

-- every record is that of the avalanche which the newest drop accepted before it opened
abbrev pub AllRecorded : Shape → (ℕ → ℕ) → List Call → List Answer → List GrainDrop → Type 0
AllRecorded s start [] ans ds = Unit {0}
AllRecorded s start (c ∷ cs) [] ds = Unit {0}
AllRecorded s start (c ∷ cs) (a ∷ ans) ds = AnswerRecorded s start ds a × AllRecorded s start cs ans (with_call c a ds)

-- the law of least count
pub record LeastCount (s : Shape) (start : ℕ → ℕ) (cs : List Call) (ans : List Answer) (x : State) : Type 0 where
  -- the heights are what settling's formula gives for the start with all accepted drops and the counts
  pub follows : Follows s (loaded start (accepted cs ans [])) (at x.counts) (at x.heights)
  -- no site has fired more often than in any list of counts, legal or not, that settles the start with those drops
  pub never_more : (w : ℕ → ℕ) → Settles s (loaded start (accepted cs ans [])) w → AtMost s (at x.counts) w
  -- every record has the figures of the least counts that settle its avalanche's opening heights
  pub records : AllRecorded s start cs ans []
