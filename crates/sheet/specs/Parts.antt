-- A sheet's bytes taken apart: parts between two stops, lines, numbers.
use Rattle.std.specs.Prelude.{◌≡◌, ℕ, ◌<◌, ◌≤◌, Bool, true, false, cond, List, [], ◌∷◌, length, drop, ◌==◌, nat_le, slice_index, slice_index_or}

-- x in front of the first part
unfoldable pub fronted : ℕ → List (List ℕ) → List (List ℕ)
fronted x [] = []
fronted x (p ∷ ps) = (x ∷ p) ∷ ps

-- the parts of a list between its stops: always one more than there are stops
unfoldable pub parts : ℕ → List ℕ → List (List ℕ)
parts stop [] = [] ∷ []
parts stop (x ∷ xs) = cond (x == stop) ([] ∷ parts stop xs) (fronted x (parts stop xs))

-- what a reader at place `at` has before it: nothing once it has passed the end
abbrev pub ahead : ℕ → List ℕ → ℕ → List (List ℕ)
ahead stop xs at = cond (nat_le at (length xs)) (parts stop (drop at xs)) []

-- a line as it stands: its bytes, and whether byte 10 ends it
pub record Raw : Type 0 where
  pub bytes : List ℕ
  pub ended : Bool

-- what stands behind the last byte 10 is a line only if it has bytes
unfoldable pub unended : List ℕ → List Raw
unended [] = []
unended (b ∷ bs) = record { bytes = b ∷ bs; ended = false } ∷ []

-- byte 10 ends each part but the last
unfoldable pub marked : List (List ℕ) → List Raw
marked [] = []
marked (p ∷ []) = unended p
marked (p ∷ q ∷ ps) = record { bytes = p; ended = true } ∷ marked (q ∷ ps)

-- the lines of a sheet
unfoldable pub lines : List ℕ → List Raw
lines s = marked (parts 10 s)

-- a number: 1 to 13 digits, with no leading 0 but in `0` itself
pub record Number (w : List ℕ) : Type 0 where
  pub some : 0 < length w
  pub short : length w ≤ 13
  pub digits : (i : ℕ) → i < length w → (48 ≤ slice_index w i) × (slice_index w i ≤ 57)
  pub plain : slice_index_or w 0 0 ≡ 48 → length w ≡ 1
