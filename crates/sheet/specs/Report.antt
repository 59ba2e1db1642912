-- The lines of a report, and an error in words.
use Rattle.std.specs.Prelude.{ℕ, List, ◌++◌, codes, decimal, encode_utf8}
use Rattle.refusal.specs.Table.{number}
use Rattle.sheet.specs.declared.LineRefusal.{LineRefusal}
use Rattle.sheet.specs.declared.UnknownLetter.{UnknownLetter}

-- ! ROW LINE PLACE
abbrev pub refusal_line : LineRefusal → List ℕ
refusal_line f = codes "! " ++ (decimal (number f.refusal.row) ++ (codes " " ++ (decimal f.line ++ (codes " " ++ decimal f.refusal.place))))

-- an unknown letter in words
abbrev pub unknown_letter : UnknownLetter → List ℕ
unknown_letter e = encode_utf8 e.0 ++ codes " is no letter of a sheet"
