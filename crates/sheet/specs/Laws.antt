-- What makes the form check's answer the only one.
use Rattle.std.specs.Prelude.{◌≡◌, ℕ, List, Option}
use Rattle.refusal.specs.Table.{InOrder}
use Rattle.sheet.specs.declared.Kind.{Kind}
use Rattle.sheet.specs.declared.Line.{Line}
use Rattle.sheet.specs.declared.LineRefusal.{LineRefusal}
use Rattle.sheet.specs.Parts.{Raw}
use Rattle.sheet.specs.Form.{Good, Faulty, line_checks}

-- a sheet of good form is not refused
abbrev pub NotBoth : Type 0
NotBoth = (s : List ℕ) (xs : List Line) (f : LineRefusal) → Good s xs → Faulty s f → ⊥

-- a sheet says one list of lines
abbrev pub OneReading : Type 0
OneReading = (s : List ℕ) (xs ys : List Line) → Good s xs → Good s ys → xs ≡ ys

-- a sheet is refused in one way
abbrev pub OneRefusal : Type 0
OneRefusal = (s : List ℕ) (f g : LineRefusal) → Faulty s f → Faulty s g → f ≡ g

-- a line's rows are checked in the table's order
abbrev pub RowsInOrder : Type 0
RowsInOrder = (p : Option Kind) (l : Raw) → InOrder (line_checks p l)
