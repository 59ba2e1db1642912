-- What a sheet of good form is, and how any other is refused.
use Rattle.std.specs.Prelude.{◌≡◌, ℕ, ◌+◌, ◌<◌, ◌≤◌, true, false, ◌⊎◌, List, [], ◌∷◌, length, Some, None, Ok, Err, Option, Result, slice_index}
use Rattle.refusal.specs.declared.Row.{Row}
use Rattle.refusal.specs.declared.Row.TheVariants as row
use Rattle.refusal.specs.declared.Part.TheVariants.{Sheet}
use Rattle.refusal.specs.Table.{Check, Refused}
use Rattle.sheet.specs.declared.Kind.{Kind}
use Rattle.sheet.specs.declared.letters.Stage.TheVariants as stages
use Rattle.sheet.specs.declared.Line.{Line}
use Rattle.sheet.specs.declared.LineRefusal.{LineRefusal}
use Rattle.sheet.specs.declared.Unread.{Unread}
use Rattle.sheet.specs.declared.Unread.TheVariants.{Form, Memory}
use Rattle.sheet.specs.Parts.{Raw, lines}
use Rattle.sheet.specs.Letters.{Head, rank, reached, May, slots, Misfit, kind, said, Say}

-- a byte that a line may hold: a to z, a digit, the space or *
abbrev pub Plain : ℕ → Type 0
Plain b = ((97 ≤ b) × (b ≤ 122)) ⊎ (((48 ≤ b) × (b ≤ 57)) ⊎ ((b ≡ 32) ⊎ (b ≡ 42)))

abbrev pub PlainTo : List ℕ → ℕ → Type 0
PlainTo bs i = (k : ℕ) → k < i → Plain (slice_index bs k)

-- column c is the first with a byte that no line may hold, or the line lacks its byte 10 there
pub record BadByte (l : Raw) (c : ℕ) : Type 0 where
  pub place : ℕ
  pub column : c ≡ place + 1
  pub within : place ≤ length l.bytes
  pub before : PlainTo l.bytes place
  pub here : place < length l.bytes → Plain (slice_index l.bytes place) → ⊥
  pub end : place ≡ length l.bytes → l.ended ≡ false

-- the first word is no letter that may stand behind the letter p
pub record NoLetter (p : Option Kind) (l : List ℕ) : Type 0 where
  pub none : (k : Kind) (ws : List (List ℕ)) → Head l k ws → May p k → ⊥

abbrev pub BadLetter : Option Kind → Raw → ℕ → Type 0
BadLetter p l c = (c ≡ 1) × NoLetter p l.bytes

-- column c is where the words behind the letter fail; they begin at column 3
pub record BadWord (l : Raw) (c : ℕ) : Type 0 where
  pub letter : Kind
  pub words : List (List ℕ)
  pub head : Head l.bytes letter words
  pub fails : Misfit 3 (slots letter) words c

-- the checks of a line that stands behind the letter p
abbrev pub line_checks : Option Kind → Raw → List Check
line_checks p l =
    record { row = row.Byte; when = BadByte l }
    ∷ record { row = row.Letter; when = BadLetter p l }
    ∷ record { row = row.Word; when = BadWord l }
    ∷ []

-- a line of good form behind the letter p, which says x
pub record Fine (p : Option Kind) (l : Raw) (x : Line) : Type 0 where
  pub plain : PlainTo l.bytes (length l.bytes)
  pub ended : l.ended ≡ true
  pub words : List (List ℕ)
  pub head : Head l.bytes (kind x) words
  pub may : May p (kind x)
  pub says : Say words (said x)

-- the letters have come to k: the last is k or a command
abbrev pub Capped : Option Kind → Type 0
Capped p = rank stages.Ceiling ≤ rank (reached p)

-- lines behind the letter p: all are of good form, say xs, and come to k
abbrev pub AllFine : Option Kind → List Raw → List Line → Type 0
AllFine p [] [] = Capped p
AllFine p [] (x ∷ xs) = ⊥
AllFine p (l ∷ ls) [] = ⊥
AllFine p (l ∷ ls) (x ∷ xs) = Fine p l x × AllFine (Some (kind x)) ls xs

-- a refusal of the sheet, at a line
abbrev pub at : ℕ → Row → ℕ → LineRefusal
at n r c = record { line = n; refusal = record { row = r; place = c; part = Sheet } }

-- lines from number n on, behind the letter p: the first bad one is refused, or the line after the last where k never comes
abbrev pub FirstBad : Option Kind → ℕ → List Raw → LineRefusal → Type 0
FirstBad p n [] f = (Capped p → ⊥) × (f ≡ at n row.Letter 1)
FirstBad p n (l ∷ ls) f =
    (Refused (line_checks p l) Sheet f.refusal × (f.line ≡ n))
    ⊎ ((x : Line) × Fine p l x × FirstBad (Some (kind x)) (n + 1) ls f)

-- a sheet of good form, which says the lines xs
pub record Good (s : List ℕ) (xs : List Line) : Type 0 where
  pub size : length s ≤ 65536
  pub fine : AllFine None (lines s) xs

-- a sheet that is refused by its size, or else by its first bad line
abbrev pub Faulty : List ℕ → LineRefusal → Type 0
Faulty s f =
    ((65536 < length s) × (f ≡ at 0 row.Limit 0))
    ⊎ ((length s ≤ 65536) × FirstBad None 1 (lines s) f)

-- what the form check answers: how many lines a sheet of good form has, or the refusal of any other
abbrev pub Checked : List ℕ → Result ℕ LineRefusal → Type 0
Checked s (Ok n) = (xs : List Line) × Good s xs × (n ≡ length xs)
Checked s (Err f) = Faulty s f

-- why a sheet was not read: its form, or want of memory for a sheet of good form
abbrev pub Unreadable : List ℕ → Unread → Type 0
Unreadable s (Form f) = Faulty s f
Unreadable s Memory = (xs : List Line) × Good s xs
