-- The turns of a play, one after the other.
use Rattle.std.proofs.Common.{◌≡◌, ℕ, ◌+◌, ◌<◌, ◌≤◌, List, [], ◌∷◌, ◌++◌, length, get_or, take, set, None, sym, refl, ap, ◌∙◌, subst, append_assoc, append-nil, add-one, arith, length-append, take_all, take-suc, take-suc-set}
use Rattle.refusal.specs.declared.Part.{Part}
use Rattle.board.specs.Shape.{Shape}
use Rattle.bench.specs.declared.GrainDrop.{GrainDrop}
use Rattle.bench.specs.declared.Record.{Record}
use Rattle.bench.specs.States.{State}
use Rattle.bench.specs.Avalanches.{Law}
use Rattle.play.specs.declared.Call.{Call}
use Rattle.play.specs.declared.Answer.{Answer}
use Rattle.firing.specs.Firing.{at}
use Rattle.play.specs.Plays.{Place, Turn, Plays, none, turn, laid_aside}
use Rattle.bench.specs.Answers.{Begun}
use Rattle.play.specs.Whole.{PlayedOn, Answered}
use Rattle.play.specs.LeastCounts.{with_call, accepted, record_of, records_of, filed, AnswerRecorded, AllRecorded, LeastCount}
use Rattle.play.specs.Turns.{Agree, place, Kept, Files}

accepted_last : (cs : List Call) (ans : List Answer) (c : Call) (a : Answer) (ds : List GrainDrop) → length cs ≡ length ans
    → accepted (cs ++ c ∷ []) (ans ++ a ∷ []) ds ≡ with_call c a (accepted cs ans ds)
accepted_last [] [] c a ds e = refl
accepted_last [] (y ∷ ans) c a ds e = absurd (omega arith)
accepted_last (x ∷ cs) [] c a ds e = absurd (omega arith)
accepted_last (x ∷ cs) (y ∷ ans) c a ds e = accepted_last cs ans c a (with_call x y ds) (omega arith)

recorded_last : (s : Shape) (start : ℕ → ℕ) (cs : List Call) (ans : List Answer) (c : Call) (a : Answer) (ds : List GrainDrop) → length cs ≡ length ans
    → AllRecorded s start cs ans ds → AnswerRecorded s start (accepted cs ans ds) a → AllRecorded s start (cs ++ c ∷ []) (ans ++ a ∷ []) ds
recorded_last s start [] [] c a ds e all one = (one, tt)
recorded_last s start [] (y ∷ ans) c a ds e all one = absurd (omega arith)
recorded_last s start (x ∷ cs) [] c a ds e all one = absurd (omega arith)
recorded_last s start (x ∷ cs) (y ∷ ans) c a ds e all one = (all.0, recorded_last s start cs ans c a (with_call x y ds) (omega arith) all.1 one)

records_last : (ans : List Answer) (a : Answer) → records_of (ans ++ a ∷ []) ≡ records_of ans ++ record_of a
records_last [] a = append-nil (record_of a)
records_last (x ∷ ans) a = ap (λ rs. record_of x ++ rs) (records_last ans a) ∙ sym (append_assoc (record_of x) (records_of ans) (record_of a))

filed_more : (m : List Record) (n : ℕ) (rs rs' : List Record) → filed m n (rs ++ rs') ≡ filed (filed m n rs) (n + length rs) rs'
filed_more m n [] rs' = ap (λ k. filed m k rs') (omega arith)
filed_more m n (r ∷ rs) rs' = filed_more (set m n r) (n + 1) rs rs' ∙ ap (λ k. filed (filed (set m n r) (n + 1) rs) k rs') (omega arith)

-- what holds after the calls cs, from the bench x, its start and record memory m of which n entries are records
pub record Playing (s : Shape) (part : Part) (slots bytes : ℕ) (start : ℕ → ℕ) (x : State) (m : List Record) (n : ℕ) (cs : List Call) (ans : List Answer) (p : Place) : Type 0 where
  pub plays : Plays s part slots bytes (place x None m n) cs ans p
  pub agree : Agree p.bench p.ticket
  pub even : length cs ≡ length ans
  pub law : Law s start (accepted cs ans []) p.bench
  pub recorded : AllRecorded s start cs ans []
  pub entries : p.entries ≡ filed m n (records_of ans)
  pub held : p.held ≡ n + length (records_of ans)

pub playing_on : {s : Shape} {part : Part} {slots bytes : ℕ} {start : ℕ → ℕ} {x : State} {m : List Record} {n : ℕ} {cs : List Call} {ans : List Answer} {p q : Place} (c : Call) (a : Answer)
    → Playing s part slots bytes start x m n cs ans p → Turn s part slots bytes p c a q → Agree q.bench q.ticket → Kept s p.bench c a q.bench → Files p.entries p.held a q.entries q.held
    → Playing s part slots bytes start x m n (cs ++ c ∷ []) (ans ++ a ∷ []) q
playing_on {s} {part} {slots} {bytes} {start} {x} {m} {n} {cs} {ans} {p} {q} c a r t agree kept files = record {
  plays = turn c a r.plays t;
  agree = agree;
  even = omega (arith, r.even, length-append cs (c ∷ []), length-append ans (a ∷ []));
  law = subst (λ ds. Law s start ds q.bench) (sym (accepted_last cs ans c a [] r.even)) (kept.law start (accepted cs ans []) r.law);
  recorded = recorded_last s start cs ans c a [] r.even r.recorded (kept.recorded start (accepted cs ans []) r.law);
  entries =
      files.0
      ∙ ap (λ e. filed e p.held (record_of a)) r.entries
      ∙ ap (λ k. filed (filed m n (records_of ans)) k (record_of a)) r.held
      ∙ sym (filed_more m n (records_of ans) (record_of a))
      ∙ ap (filed m n) (sym (records_last ans a));
  held = omega (arith, files.1, r.held, ap length (records_last ans a), length-append (records_of ans) (record_of a));
}

-- the same of the first calls and answers in memory
pub playing_more : {s : Shape} {part : Part} {slots bytes : ℕ} {start : ℕ → ℕ} {x : State} {m : List Record} {n : ℕ} (cs : List Call) (ans : List Answer) (i : ℕ) (d : Call) {p q : Place} (a : Answer) → i < length cs → length ans ≡ length cs
    → Playing s part slots bytes start x m n (take i cs) (take i ans) p → Turn s part slots bytes p (get_or cs i d) a q → Agree q.bench q.ticket → Kept s p.bench (get_or cs i d) a q.bench → Files p.entries p.held a q.entries q.held
    → Playing s part slots bytes start x m n (take (i + 1) cs) (take (i + 1) (set ans i a)) q
playing_more {s} {part} {slots} {bytes} {start} {x} {m} {n} cs ans i d {p} {q} a l e r t agree kept files =
    let k : i < length ans = omega arith in
    rw (add-one, take-suc cs i d, take-suc-set) (playing_on (get_or cs i d) a r t agree kept files)

-- before the first call
pub playing_begins : {s : Shape} {part : Part} {slots bytes : ℕ} (x : State) (m : List Record) (n : ℕ) → Agree x None → Law s (at x.heights) [] x → Playing s part slots bytes (at x.heights) x m n [] [] (place x None m n)
playing_begins x m n agree law = record { plays = none; agree = agree; even = refl; law = law; recorded = tt; entries = refl; held = omega arith }

pub turn_in : (s : Shape) (part : Part) (slots slots' bytes bytes' : ℕ) (p q : Place) (a : Answer) (c : Call) → slots ≡ slots' → bytes ≡ bytes' → Turn s part slots bytes p c a q → Turn s part slots' bytes' p c a q
turn_in s part slots slots' bytes bytes' p q a c e f t = subst (λ k. Turn s part slots' k p c a q) f (subst (λ k. Turn s part k bytes p c a q) e t)

-- behind the last call
pub playing_ends : {s : Shape} {part : Part} {slots bytes : ℕ} (x y : State) (m : List Record) (n : ℕ) (cs : List Call) (ans : List Answer) (i : ℕ) (p : Place) → length cs ≤ i → length ans ≡ length cs
    → Playing s part slots bytes (at x.heights) x m n (take i cs) (take i ans) p → y ≡ laid_aside p.bench p.ticket
    → ((start : ℕ → ℕ) (ds : List GrainDrop) → Law s start ds p.bench → Law s start ds y) → PlayedOn s part slots bytes x y cs ans m n p.entries p.held
playing_ends {s} {part} {slots} {bytes} x y m n cs ans i p all even r aside kept =
    let r' : Playing s part slots bytes (at x.heights) x m n cs ans p = subst (λ l. Playing s part slots bytes (at x.heights) x m n cs l p) (take_all i ans (omega arith)) (subst (λ l. Playing s part slots bytes (at x.heights) x m n l (take i ans) p) (take_all i cs all) r) in
    record {
      at_end = p;
      plays = r'.plays;
      aside = aside;
      entries_are = refl;
      held_is = refl;
      law = kept (at x.heights) (accepted cs ans []) r'.law;
      recorded = r'.recorded;
      entries = r'.entries;
      held = r'.held;
    }

-- a play on a bench just created, with work memory as lent at first
pub whole_answers : {s : Shape} {part : Part} {slots slots' bytes bytes' : ℕ} {start : List ℕ} {ceiling : ℕ} {x y : State} {cs : List Call} {ans : List Answer} {m : List Record} {n : ℕ} {m' : List Record} {n' : ℕ} → slots ≡ slots' → bytes ≡ bytes'
    → Begun start ceiling x → PlayedOn s part slots bytes x y cs ans m n m' n' → Answered s part slots' bytes' start ceiling y cs ans m n m' n'
whole_answers {s} {part} {slots} {slots'} {bytes} {bytes'} {start} {ceiling} {x} {y} {cs} {ans} {m} {n} e f begun r = record {
  fresh = x;
  begun = begun;
  at_end = r.at_end;
  plays = subst (λ k. Plays s part slots' k (place x None m n) cs ans r.at_end) f (subst (λ k. Plays s part k bytes (place x None m n) cs ans r.at_end) e r.plays);
  aside = r.aside;
  entries = r.entries_are;
  held = r.held_is;
}

pub whole_least : {s : Shape} {part : Part} {slots bytes : ℕ} {start : List ℕ} {x y : State} {cs : List Call} {ans : List Answer} {m : List Record} {n : ℕ} {m' : List Record} {n' : ℕ} → x.heights ≡ start
    → PlayedOn s part slots bytes x y cs ans m n m' n' → LeastCount s (at start) cs ans y × (m' ≡ filed m n (records_of ans)) × (n' ≡ n + length (records_of ans))
whole_least {s} {part} {slots} {bytes} {start} {x} {y} {cs} {ans} e r =
    let law : Law s (at start) (accepted cs ans []) y = subst (λ l. Law s (at l) (accepted cs ans []) y) e r.law in (
      record { follows = law.follows; never_more = law.never_more; records = subst (λ l. AllRecorded s (at l) cs ans []) e r.recorded },
      r.entries,
      r.held,
    )
