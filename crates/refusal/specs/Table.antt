-- The refusal table: each row's number, the order in which rows are checked, each part's name.
use Rattle.std.specs.Prelude.{◌≡◌, ◌⊎◌, Bool, true, false, cond, List, [], ◌∷◌, ◌++◌, ℕ, eqb, codes, decimal}
use Rattle.refusal.specs.declared.Row.{Row}
use Rattle.refusal.specs.declared.Row.TheVariants.{Memory, Limit, Site, NoDrain, Phase, CannotFire, Ceiling, Ticket, NotStill, Byte, Letter, Word, NotFollowing, EndFires, TakenBack, ListFull, CutFull, FewLinks, LayerSet, RecordsFull, Budget}
use Rattle.refusal.specs.declared.Refusal.{Refusal}
use Rattle.refusal.specs.declared.Part.{Part}
use Rattle.refusal.specs.declared.Part.TheVariants.{Sheet, Board, Earth, Merge, Cut, Bench, Certificate, Group}

-- a row's number
abbrev pub number : Row → ℕ
number Memory = 1
number Limit = 2
number Site = 3
number NoDrain = 4
number Phase = 5
number CannotFire = 6
number Ceiling = 7
number Ticket = 8
number NotStill = 9
number Byte = 10
number Letter = 11
number Word = 12
number NotFollowing = 13
number EndFires = 14
number TakenBack = 15
number ListFull = 16
number CutFull = 17
number FewLinks = 18
number LayerSet = 19
number RecordsFull = 20
number Budget = 21

-- the order in which rows are checked
abbrev pub checks : List Row
checks = Memory ∷ Limit ∷ Site ∷ NoDrain ∷ Phase ∷ CannotFire ∷ Ceiling ∷ Ticket ∷ NotStill ∷ Byte ∷ Letter ∷ Word ∷ NotFollowing ∷ EndFires ∷ TakenBack ∷ ListFull ∷ CutFull ∷ FewLinks ∷ LayerSet ∷ RecordsFull ∷ Budget ∷ []

-- a part's name
abbrev pub name : Part → List ℕ
name Sheet = codes "sheet"
name Board = codes "board"
name Earth = codes "earth"
name Merge = codes "merge"
name Cut = codes "cut"
name Bench = codes "bench"
name Certificate = codes "certificate"
name Group = codes "group"

-- a refusal in words: PART refuses by row ROW at PLACE
abbrev pub said : Refusal → List ℕ
said e = name e.part ++ (codes " refuses by row " ++ (decimal (number e.row) ++ (codes " at " ++ decimal e.place)))

-- a check: its row, and when it refuses with which place
pub record Check : Type 1 where
  pub row : Row
  pub when : ℕ → Type 0

-- a check that finds nothing
abbrev pub Silent : Check → Type 0
Silent c = (p : ℕ) → c.when p → ⊥

-- no check of the list refuses
abbrev pub Passed : List Check → Type 0
Passed [] = Unit {0}
Passed (c ∷ cs) = Silent c × Passed cs

-- the first check of the list that refuses does so with row r and place p
abbrev pub First : List Check → Row → ℕ → Type 0
First [] r p = ⊥
First (c ∷ cs) r p = ((r ≡ c.row) × c.when p) ⊎ (Silent c × First cs r p)

-- e is the refusal of the first check that refuses, from this part
pub record Refused (cs : List Check) (part : Part) (e : Refusal) : Type 0 where
  pub by : First cs e.row e.place
  pub from : e.part ≡ part

-- rows that stand in the order of `checks`: what is left of it holds each in turn
abbrev pub follows : List Row → List Row → Bool
follows [] [] = true
follows [] (r ∷ rs) = false
follows (q ∷ qs) [] = true
follows (q ∷ qs) (r ∷ rs) = cond (eqb (number q) (number r)) (follows qs rs) (follows qs (r ∷ rs))

abbrev pub rows : List Check → List Row
rows [] = []
rows (c ∷ cs) = c.row ∷ rows cs

-- the checks of a call stand in the order of `checks`
abbrev pub InOrder : List Check → Type 0
InOrder cs = follows checks (rows cs) ≡ true
