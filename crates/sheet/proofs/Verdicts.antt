-- A line's rows in their order, and a sheet's verdict line by line.
use Rattle.std.proofs.Common.{◌≡◌, ℕ, ◌≤◌, Bool, true, false, IsTrue, List, [], ◌∷◌, ◌++◌, length, drop, Some, None, Ok, Err, Option, Result, MatchResult, sym, refl, ap, ◌∙◌, subst, inl, inr, append_assoc, arith}
use Rattle.std.proofs.lemmas.Bool.{cases_lt, both_ways}
use Rattle.std.proofs.lemmas.List.{append-nil, length_push}
use Rattle.std.specs.Result.{IsOkAnd, IsErrAnd}
use Rattle.std.proofs.lemmas.Result.{err_from_is_err_and}
use Rattle.refusal.specs.declared.Refusal.{Refusal}
use Rattle.sheet.specs.declared.Kind.{Kind}
use Rattle.sheet.specs.declared.Line.{Line}
use Rattle.sheet.specs.declared.LineRefusal.{LineRefusal}
use Rattle.sheet.specs.declared.reader.Lines.{Lines}
use Rattle.sheet.specs.declared.reader.RawLine.{RawLine}
use Rattle.sheet.specs.declared.reader.Reader.{Reader}
use Rattle.sheet.specs.Parts.{Raw, lines}
use Rattle.sheet.specs.Letters.{Head, May, kind}
use Rattle.sheet.specs.Form.{PlainTo, BadByte, BadLetter, AllFine, FirstBad}
use Rattle.sheet.specs.Reading.{lines_ahead, raw, LineTaken, LineSaid, NextSaid, LinesNext, AllPlain, WordsSaid, LetterFirst, Verdict}
use Rattle.sheet.proofs.Heads.{head_one}

pub silent_byte : (l : Raw) → PlainTo l.bytes (length l.bytes) → l.ended ≡ true → (c : ℕ) → BadByte l c → ⊥
silent_byte l plain ended c bad =
    elim (cases_lt bad.place (length l.bytes)) [
      | inl lt ↦ bad.here lt (plain bad.place lt)
      | inr ge ↦ both_ways l.ended (bad.end (omega (arith, bad.within))) ended
    ]

pub silent_letter : (p : Option Kind) (l : Raw) (k : Kind) (ws : List (List ℕ)) → Head l.bytes k ws → May p k → (c : ℕ) → BadLetter p l c → ⊥
silent_letter p l k ws head may c bad = bad.1.none k ws head may

-- a line whose bytes are plain, by its letter and the words behind it
pub verdict : (p : Option Kind) (l : Raw) (k : Kind) (ws : List (List ℕ)) (may : Bool) (words : Result Line ℕ) (r : Result Line Refusal) → AllPlain l → Head l.bytes k ws → ((IsTrue may → May p k) × (May p k → IsTrue may)) → WordsSaid l k ws words → LetterFirst may words r → Verdict p l r
verdict p l k ws may words (Ok x) plain head order said first =
    let says = subst (WordsSaid l k ws) first.1 said in
    record {
      plain = plain.plain;
      ended = plain.ended;
      words = ws;
      head = subst (λ j. Head l.bytes j ws) (sym says.0) head;
      may = subst (May p) (sym says.0) (order.0 first.0);
      says = says.1;
    }
verdict p l k ws may words (Err e) plain head order said (part, inl bad) =
    record {
      by = inr (plain.silent, inl (bad.1, (bad.2, record { none = λ j vs other m. let yes = order.1 (subst (May p) (head_one l.bytes j k vs ws other head).0 m) in both_ways may bad.0 yes })));
      from = part;
    }
verdict p l k ws may words (Err e) plain head order said (part, inr bad) =
    record { by = inr (plain.silent, inr (silent_letter p l k ws head (order.0 bad.0), inl (bad.1, subst (WordsSaid l k ws) bad.2 said))); from = part }

-- a reader that has come to some line, with the lines `done` behind it: what it finds from here on holds of the sheet
pub record Come (s : List ℕ) (r : Reader) (p : Option Kind) (done : List Line) : Type 0 where
  pub same : r.bytes.now ≡ s
  pub few : length done ≤ r.at
  pub bad : (f : LineRefusal) → FirstBad p r.line (lines_ahead r) f → FirstBad None 1 (lines s) f
  pub good : (xs : List Line) → AllFine p (lines_ahead r) xs → AllFine None (lines s) (done ++ xs)

pub come_start : (r : Reader) → r.at ≡ 0 → r.line ≡ 1 → Come r.bytes.now r None []
come_start r at line =
    let s = r.bytes.now in
    let here : lines_ahead r ≡ lines s = ap (λ k. lines (drop k s)) at in
    record {
      same = refl;
      few = omega arith;
      bad = λ f b. subst (λ ls. FirstBad None 1 ls f) here (subst (λ n. FirstBad None n (lines_ahead r) f) line b);
      good = λ xs g. subst (λ ls. AllFine None ls xs) here g;
    }

pub come_more : {s : List ℕ} {r q : Reader} {p : Option Kind} {done : List Line} (x : Line) → Come s r p done → LineSaid r q p x → q.bytes.now ≡ r.bytes.now → Come s q (Some (kind x)) (done ++ x ∷ [])
come_more {s} {r} {q} {p} {done} x come next same =
    record {
      same = same ∙ come.same;
      few = omega (arith, come.few, next.further, length_push done x);
      bad = λ f b. come.bad f (subst (λ ls. FirstBad p r.line ls f) (sym next.ahead) (inr (x, next.fine, subst (λ n. FirstBad (Some (kind x)) n (lines_ahead q) f) next.line b)));
      good = λ xs g. subst (λ ys. AllFine None (lines s) ys) (sym (append_assoc done (x ∷ []) xs)) (come.good (x ∷ xs) (subst (λ ls. AllFine p ls (x ∷ xs)) (sym next.ahead) (next.fine, g)));
    }

-- a line that was taken, by its verdict v, which is m once what it says is marked as some, and b once its refusal has its line
pub next_from : {r q : Reader} (p : Option Kind) (l : RawLine) (v : Result Line Refusal) (m : Result (Option Line) Refusal) (b : Result (Option Line) LineRefusal) (P : Line → Option Line → Type 0) (Q : Refusal → LineRefusal → Type 0) → LineTaken r q l → Verdict p (raw l) v → MatchResult v (λ x. IsOkAnd m (P x)) (λ e. m ≡ Err e) → MatchResult m (λ y. b ≡ Ok y) (λ e. IsErrAnd b (Q e)) → ((x : Line) (y : Option Line) → P x y → y ≡ Some x) → ((e : Refusal) (f : LineRefusal) → Q e f → f ≡ record { line = l.number; refusal = e }) → NextSaid r q p b
next_from {r} {q} p l (Ok x) (Ok y) b P Q taken fine h k good bad =
    let said : LineSaid r q p x = record { bytes = raw l; ahead = taken.ahead; fine = fine; line = taken.line; further = taken.further } in
    subst (NextSaid r q p) (sym (k ∙ ap Ok (good x y h))) said
next_from p l (Ok x) (Err d) b P Q taken fine h k good bad = absurd h
next_from p l (Err e) (Ok y) b P Q taken fine h k good bad = absurd (cc)
next_from {r} {q} p l (Err e) (Err d) b P Q taken fine h k good bad =
    let same : d ≡ e = cc in
    let f = err_from_is_err_and b k in
    let here : f.0 ≡ record { line = l.number; refusal = e } = bad d f.0 f.2 ∙ ap (λ z. record { line = l.number; refusal = z }) same in
    let first : FirstBad p r.line (lines_ahead r) record { line = l.number; refusal = e } = subst (λ (ls : List Raw). FirstBad p r.line ls record { line = l.number; refusal = e }) (sym taken.ahead) (inl (fine, taken.number)) in
    subst (NextSaid r q p) (sym (f.1 ∙ ap Err here)) first

-- an iteration over a sheet's lines, and the end
pub come_next : {s : List ℕ} {done : List Line} {o : Result Line LineRefusal} {x : Line} (r q : Lines) → Come s r.reader r.last done → o ≡ Ok x → LinesNext r (Some o) q → (q.refused ≡ false) × Come s q.reader q.last (done ++ x ∷ [])
come_next {s} {done} {o} {x} r q come is next =
    let here = subst (λ (o : Result Line LineRefusal). LinesNext r (Some o) q) is next in
    (here.2, subst (λ p. Come s q.reader p (done ++ x ∷ [])) (sym here.1) (come_more x come here.0 here.3))

pub come_end : {s : List ℕ} {done : List Line} (r q : Lines) → Come s r.reader r.last done → r.refused ≡ false → LinesNext r None q → AllFine None (lines s) done
come_end {s} {done} r q come goes next =
    let end = next goes in
    subst (λ ys. AllFine None (lines s) ys) (append-nil done) (come.good [] (subst (λ ls. AllFine r.last ls []) (sym end.0) end.1))

-- what was taken by hand, and the end
pub said_some : {r q : Reader} {p : Option Kind} {o : Option Line} {x : Line} → o ≡ Some x → NextSaid r q p (Ok o) → LineSaid r q p x
said_some {r} {q} {p} e h = subst (λ (o : Option Line). NextSaid r q p (Ok o)) e h

pub come_last : {s : List ℕ} {r : Reader} {p : Option Kind} {done : List Line} (q : Reader) {o : Option Line} → Come s r p done → o ≡ None → NextSaid r q p (Ok o) → AllFine None (lines s) done
come_last {s} {r} {p} {done} q come e h =
    let end = subst (λ (o : Option Line). NextSaid r q p (Ok o)) e h in
    subst (λ ys. AllFine None (lines s) ys) (append-nil done) (come.good [] (subst (λ ls. AllFine p ls []) (sym end.0) end.1))
