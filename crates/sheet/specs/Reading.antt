-- What the reader's steps give: r is the reader before a step, q after it.
use Rattle.std.specs.Prelude.{◌≡◌, ℕ, ◌+◌, ◌<◌, ◌≤◌, Bool, true, false, ◌⊎◌, List, [], ◌∷◌, length, drop, Some, None, Ok, Err, Option, Result, ◌≢◌, slice_index, ◌-◌, if◌then◌else◌}
use Rattle.std.specs.Borrow.{Bor}
use Rattle.std.specs.Range.{range_inclusive_start, range_inclusive_end, range_inclusive_exhausted}
use Rattle.std.specs.declared.ops.RangeInclusive.{RangeInclusive}
use Rattle.refusal.specs.declared.Refusal.{Refusal}
use Rattle.refusal.specs.declared.Row.TheVariants as row
use Rattle.refusal.specs.declared.Part.TheVariants.{Sheet}
use Rattle.refusal.specs.Table.{Refused}
use Rattle.sheet.specs.declared.Kind.{Kind}
use Rattle.sheet.specs.declared.Line.{Line}
use Rattle.sheet.specs.declared.LineRefusal.{LineRefusal}
use Rattle.sheet.specs.declared.letters.Stage.{Stage}
use Rattle.sheet.specs.declared.reader.Lines.{Lines}
use Rattle.sheet.specs.declared.reader.Place.{Place}
use Rattle.sheet.specs.declared.reader.RawLine.{RawLine}
use Rattle.sheet.specs.declared.reader.Reader.{Reader}
use Rattle.sheet.specs.declared.reader.Word.{Word}
use Rattle.sheet.specs.declared.reader.Word.TheVariants.{Number, Drain, Letter}
use Rattle.sheet.specs.Parts.{Raw, parts, ahead, lines}
use Rattle.sheet.specs.Form.{PlainTo, BadByte, NoLetter, BadWord, line_checks, Fine, Capped, FirstBad, at}
use Rattle.sheet.specs.Letters.{Head, Slot, slots, Misfit, Value, Says, Say, kind, said}

-- the line as it stands
abbrev pub raw : RawLine → Raw
raw l = record { bytes = l.bytes.now; ended = l.ended }

-- the lines, and the words, that the reader has before it
abbrev pub lines_ahead : Reader → List Raw
lines_ahead r = lines (drop r.at r.bytes.now)

abbrev pub words_ahead : Reader → List (List ℕ)
words_ahead r = ahead 32 r.bytes.now r.at

-- the next line was taken
pub record LineTaken (r q : Reader) (l : RawLine) : Type 0 where
  pub ahead : lines_ahead r ≡ raw l ∷ lines_ahead q
  pub number : l.number ≡ r.line
  pub line : q.line ≡ r.line + 1
  pub further : r.at < q.at
  pub few : length l.bytes.now ≤ 65536

abbrev pub NextLine : Reader → Reader → Option RawLine → Type 0
NextLine r q None = (lines_ahead r ≡ []) × (q.line ≡ r.line)
NextLine r q (Some l) = LineTaken r q l

abbrev pub part : Word → List ℕ
part (Number p c) = p.now
part (Drain p c) = p.now
part (Letter p c) = p.now

abbrev pub place : Word → Place
place (Number p c) = c
place (Drain p c) = c
place (Letter p c) = c

abbrev pub Digit : ℕ → Type 0
Digit b = (48 ≤ b) × (b ≤ 57)

-- what the first byte of a word makes it
abbrev pub Sorted : Word → ℕ → Type 0
Sorted (Number p c) b = Digit b
Sorted (Drain p c) b = b ≡ 42
Sorted (Letter p c) b = (Digit b → ⊥) × (b ≢ 42)

-- the next word was taken
pub record WordTaken (r q : Reader) (w : Word) : Type 0 where
  pub ahead : words_ahead r ≡ part w ∷ words_ahead q
  pub some : 0 < length (part w)
  pub line : (place w).line ≡ r.line
  pub column : (place w).column ≡ r.column
  pub moved : q.column ≡ r.column + length (part w) + 1
  pub sorted : Sorted w (slice_index (part w) 0)

-- no word is left, and x is the column after the line; or the next is empty, and x is its column
abbrev pub NoWord : Reader → ℕ → Type 0
NoWord r x = ((words_ahead r ≡ []) × (x + 1 ≡ r.column)) ⊎ ((ws : List (List ℕ)) × (words_ahead r ≡ [] ∷ ws) × (x ≡ r.column))

abbrev pub NextWord : Reader → Reader → Result Word ℕ → Type 0
NextWord r q (Ok w) = WordTaken r q w
NextWord r q (Err x) = NoWord r x

-- the next word was taken, and says e
pub record Took (r q : Reader) (e : Value) : Type 0 where
  pub word : List ℕ
  pub ahead : words_ahead r ≡ word ∷ words_ahead q
  pub says : Says word e
  pub moved : q.column ≡ r.column + length word + 1

-- the next word is missing or does not fit the place t, at column x, whatever places follow
abbrev pub Fails : Slot → Reader → ℕ → Type 0
Fails t r x = (ts : List Slot) → Misfit r.column (t ∷ ts) (words_ahead r) x

-- all words before the reader fit the places ts and say what the answer holds; or the answer is the column where they fail
abbrev pub WordsRead : {A : Type 0} → Reader → List Slot → Result A ℕ → (A → List Value) → Type 0
WordsRead r ts (Ok a) f = Say (words_ahead r) (f a)
WordsRead r ts (Err x) f = Misfit r.column ts (words_ahead r) x

-- all words before the reader are those that the letter k wants, and the line says them; or the column where they fail
abbrev pub LineRead : Kind → Reader → Result Line ℕ → Type 0
LineRead k r (Ok x) = (kind x ≡ k) × Say (words_ahead r) (said x)
LineRead k r (Err c) = Misfit r.column (slots k) (words_ahead r) c

-- the stages from the first of the pair to the last
abbrev pub IsSpan : RangeInclusive Stage → Stage × Stage → Type 0
IsSpan r p = (range_inclusive_start r ≡ p.0) × (range_inclusive_end r ≡ p.1) × (range_inclusive_exhausted r ≡ false)

-- the words behind the letter: those of the rest, or none where the line is its letter alone
abbrev pub rest_words : Option (Bor (List ℕ)) → List (List ℕ)
rest_words None = []
rest_words (Some rest) = parts 32 rest.now

-- the rest has at most n bytes
abbrev pub Few : Option (Bor (List ℕ)) → ℕ → Type 0
Few None n = Unit {0}
Few (Some rest) n = length rest.now ≤ n

-- a line taken apart as its letter and the rest; or its first word is no letter
abbrev pub Apart : List ℕ → Option (Kind × Option (Bor (List ℕ))) → Type 0
Apart l (Some p) = Head l p.0 (rest_words p.1) × Few p.1 (length l)
Apart l None = (p : Option Kind) → NoLetter p l

-- a line is of good form behind the letter p, or refused
abbrev pub Verdict : Option Kind → Raw → Result Line Refusal → Type 0
Verdict p l (Ok x) = Fine p l x
Verdict p l (Err e) = Refused (line_checks p l) Sheet e

-- the letter out of order is refused, or else what the words say or where they fail
abbrev pub LetterFirst : Bool → Result Line ℕ → Result Line Refusal → Type 0
LetterFirst in_order said (Ok x) = (in_order ≡ true) × (said ≡ Ok x)
LetterFirst in_order said (Err e) =
    (e.part ≡ Sheet)
    × (((in_order ≡ false) × (e.row ≡ row.Letter) × (e.place ≡ 1))
    ⊎ ((in_order ≡ true) × (e.row ≡ row.Word) × (said ≡ Err e.place)))

-- the bytes of a line are all plain and byte 10 ends it, so that no byte of it is bad
pub record AllPlain (l : Raw) : Type 0 where
  pub plain : PlainTo l.bytes (length l.bytes)
  pub ended : l.ended ≡ true
  pub silent : (c : ℕ) → BadByte l c → ⊥

-- the words behind the letter k of a line say x, or fail at the column
abbrev pub WordsSaid : Raw → Kind → List (List ℕ) → Result Line ℕ → Type 0
WordsSaid l k ws (Ok x) = (kind x ≡ k) × Say ws (said x)
WordsSaid l k ws (Err c) = BadWord l c

-- the next line is of good form behind the letter p, and says x
pub record LineSaid (r q : Reader) (p : Option Kind) (x : Line) : Type 0 where
  pub bytes : Raw
  pub ahead : lines_ahead r ≡ bytes ∷ lines_ahead q
  pub fine : Fine p bytes x
  pub line : q.line ≡ r.line + 1
  pub further : r.at < q.at

-- the next line, the end of a sheet that has come to k, or the refusal
abbrev pub NextSaid : Reader → Reader → Option Kind → Result (Option Line) LineRefusal → Type 0
NextSaid r q p (Ok (Some x)) = LineSaid r q p x
NextSaid r q p (Ok None) = (lines_ahead r ≡ []) × Capped p
NextSaid r q p (Err f) = FirstBad p r.line (lines_ahead r) f

-- the next of a sheet's lines: a line of good form, the refusal of a bad one, behind which nothing comes, or the end
abbrev pub LinesNext : Lines → Option (Result Line LineRefusal) → Lines → Type 0
LinesNext r (Some (Ok x)) q = LineSaid r.reader q.reader r.last x × (q.last ≡ Some (kind x)) × (q.refused ≡ false) × (q.reader.bytes.now ≡ r.reader.bytes.now)
LinesNext r (Some (Err f)) q = FirstBad r.last r.reader.line (lines_ahead r.reader) f × (q.refused ≡ true)
LinesNext r None q = r.refused ≡ false → (lines_ahead r.reader ≡ []) × Capped r.last

-- at most so many lines are left
abbrev pub lines_left : Lines → ℕ
lines_left r = if r.refused then 0 else length r.reader.bytes.now + 2 - r.reader.at

-- the lines of a sheet that is not too long, from the first on; or the refusal of its size
abbrev pub Opened : List ℕ → Result Lines LineRefusal → Type 0
Opened s (Ok r) = (length s ≤ 65536) × (r.reader.bytes.now ≡ s) × (r.reader.at ≡ 0) × (r.reader.line ≡ 1) × (r.last ≡ None) × (r.refused ≡ false)
Opened s (Err f) = (65536 < length s) × (f ≡ at 0 row.Limit 0)
