-- What a line is: its letter, where that letter may stand, the words behind it, and what they say.
use Rattle.std.specs.Prelude.{◌≡◌, ℕ, ◌+◌, ◌≤◌, ◌⊎◌, List, [], ◌∷◌, length, Some, None, Ok, Err, Option, Result, ◌≢◌}
use Rattle.std.specs.Str.Parse.{digits_value}
use Rattle.sheet.specs.declared.Kind.{Kind}
use Rattle.sheet.specs.declared.Kind.TheVariants.{Grid, Sites, Link, Earth, Merge, Cut, Height, Ceiling, Drop, Fire, Run, Wave, Close, Shelve, Resume}
use Rattle.board.specs.declared.link.End.{End}
use Rattle.board.specs.declared.link.End.TheVariants.{Site, Drain}
use Rattle.sheet.specs.declared.letters.Stage.{Stage}
use Rattle.sheet.specs.declared.letters.Stage.TheVariants as stages
use Rattle.sheet.specs.declared.Line.{Line}
use Rattle.sheet.specs.declared.UnknownLetter.{UnknownLetter}
use Rattle.sheet.specs.declared.Line.TheVariants as line
use Rattle.sheet.specs.Parts.{Number, parts}

-- the byte of a letter: g n l e m c h k d f r w s p u
abbrev pub letter : Kind → ℕ
letter Grid = 103
letter Sites = 110
letter Link = 108
letter Earth = 101
letter Merge = 109
letter Cut = 99
letter Height = 104
letter Ceiling = 107
letter Drop = 100
letter Fire = 102
letter Run = 114
letter Wave = 119
letter Close = 115
letter Shelve = 112
letter Resume = 117

-- the letter that a character is, or that it is none
abbrev pub Known : ℕ → Result Kind UnknownLetter → Type 0
Known c (Ok k) = letter k ≡ c
Known c (Err e) = (e.0 ≡ c) × ((k : Kind) → letter k ≢ c)

-- the first word of a line is the letter of k, and these words stand behind it
abbrev pub Head : List ℕ → Kind → List (List ℕ) → Type 0
Head l k ws = parts 32 l ≡ (letter k ∷ []) ∷ ws

-- the order of the stages: a sheet's start, then n, l, g, e, m, c, h, k, commands
abbrev pub rank : Stage → ℕ
rank stages.Start = 0
rank stages.Sites = 1
rank stages.Link = 2
rank stages.Grid = 3
rank stages.Earth = 4
rank stages.Merge = 5
rank stages.Cut = 6
rank stages.Height = 7
rank stages.Ceiling = 8
rank stages.Command = 9

-- where a letter stands in a sheet
abbrev pub stage : Kind → Stage
stage Sites = stages.Sites
stage Link = stages.Link
stage Grid = stages.Grid
stage Earth = stages.Earth
stage Merge = stages.Merge
stage Cut = stages.Cut
stage Height = stages.Height
stage Ceiling = stages.Ceiling
stage Drop = stages.Command
stage Fire = stages.Command
stage Run = stages.Command
stage Wave = stages.Command
stage Close = stages.Command
stage Shelve = stages.Command
stage Resume = stages.Command

-- the stage of the letter before, or of the start
abbrev pub reached : Option Kind → Stage
reached None = stages.Start
reached (Some k) = stage k

-- the first and the last stage that a letter may stand right behind
abbrev pub behind : Kind → Stage × Stage
behind Sites = (stages.Start, stages.Start)
behind Grid = (stages.Start, stages.Start)
behind Link = (stages.Sites, stages.Link)
behind Earth = (stages.Sites, stages.Grid)
behind Merge = (stages.Sites, stages.Earth)
behind Cut = (stages.Sites, stages.Cut)
behind Height = (stages.Sites, stages.Height)
behind Ceiling = (stages.Sites, stages.Height)
behind Drop = (stages.Ceiling, stages.Command)
behind Fire = (stages.Ceiling, stages.Command)
behind Run = (stages.Ceiling, stages.Command)
behind Wave = (stages.Ceiling, stages.Command)
behind Close = (stages.Ceiling, stages.Command)
behind Shelve = (stages.Ceiling, stages.Command)
behind Resume = (stages.Ceiling, stages.Command)

-- a letter may stand behind the letter before it, or at the start
abbrev pub May : Option Kind → Kind → Type 0
May p k = (rank (behind k).0 ≤ rank (reached p)) × (rank (reached p) ≤ rank (behind k).1)

-- what may stand in a word's place: a number, or a number or the drain
pub data Slot : Type 0 where
  number : Slot
  far : Slot

-- the words that a letter wants behind it
abbrev pub slots : Kind → List Slot
slots Grid = number ∷ number ∷ []
slots Sites = number ∷ []
slots Link = number ∷ far ∷ number ∷ []
slots Earth = number ∷ []
slots Merge = number ∷ number ∷ []
slots Cut = number ∷ far ∷ number ∷ []
slots Height = number ∷ number ∷ []
slots Ceiling = number ∷ []
slots Drop = number ∷ number ∷ []
slots Fire = number ∷ []
slots Run = number ∷ []
slots Wave = []
slots Close = []
slots Shelve = []
slots Resume = []

-- the byte * alone is the drain
abbrev pub drain_word : List ℕ
drain_word = 42 ∷ []

-- a word that fits its place
abbrev pub Fits : Slot → List ℕ → Type 0
Fits number w = Number w
Fits far w = Number w ⊎ (w ≡ drain_word)

-- the words from column c on, parted by one space: the column of the first that does not fit its place or is surplus, or that after the line where one is missing
abbrev pub Misfit : ℕ → List Slot → List (List ℕ) → ℕ → Type 0
Misfit c [] [] x = ⊥
Misfit c [] (w ∷ ws) x = x ≡ c
Misfit c (t ∷ ts) [] x = x + 1 ≡ c
Misfit c (t ∷ ts) (w ∷ ws) x = ((Fits t w → ⊥) × (x ≡ c)) ⊎ (Fits t w × Misfit (c + length w + 1) ts ws x)

-- what a word says
pub data Value : Type 0 where
  amount : ℕ → Value
  drain : Value

abbrev pub end_value : End → Value
end_value (Site n) = amount n
end_value Drain = drain

-- a word says a number by its decimal digits, and * says the drain
abbrev pub Says : List ℕ → Value → Type 0
Says w (amount n) = Number w × (n ≡ digits_value 10 w)
Says w drain = w ≡ drain_word

abbrev pub Say : List (List ℕ) → List Value → Type 0
Say [] [] = Unit {0}
Say [] (e ∷ es) = ⊥
Say (w ∷ ws) [] = ⊥
Say (w ∷ ws) (e ∷ es) = Says w e × Say ws es

-- the letter of a line
abbrev pub kind : Line → Kind
kind (line.Grid r c) = Grid
kind (line.Sites n) = Sites
kind (line.Link v e k) = Link
kind (line.Earth w) = Earth
kind (line.Merge a b) = Merge
kind (line.Cut v e k) = Cut
kind (line.Height v k) = Height
kind (line.Ceiling k) = Ceiling
kind (line.Drop v k) = Drop
kind (line.Fire v) = Fire
kind (line.Run k) = Run
kind line.Wave = Wave
kind line.Close = Close
kind line.Shelve = Shelve
kind line.Resume = Resume

-- what the words behind a line's letter say
abbrev pub said : Line → List Value
said (line.Grid r c) = amount r ∷ amount c ∷ []
said (line.Sites n) = amount n ∷ []
said (line.Link v e k) = amount v ∷ end_value e ∷ amount k ∷ []
said (line.Earth w) = amount w ∷ []
said (line.Merge a b) = amount a ∷ amount b ∷ []
said (line.Cut v e k) = amount v ∷ end_value e ∷ amount k ∷ []
said (line.Height v k) = amount v ∷ amount k ∷ []
said (line.Ceiling k) = amount k ∷ []
said (line.Drop v k) = amount v ∷ amount k ∷ []
said (line.Fire v) = amount v ∷ []
said (line.Run k) = amount k ∷ []
said line.Wave = []
said line.Close = []
said line.Shelve = []
said line.Resume = []
