-- The board of a grid, by rows and columns.
use Rattle.std.specs.Prelude.{◌≡◌, ℕ, ◌+◌, ◌*◌, ◌/◌, ◌%◌, ◌<◌, Bool, cond, ◌&&◌, ◌||◌, ◌⊎◌, List, [], ◌∷◌, ◌==◌, nat_lt}
use Rattle.refusal.specs.declared.Row.TheVariants as row
use Rattle.refusal.specs.Table.{Check}
use Rattle.board.specs.Shape.{Shape}
use Rattle.board.specs.Limits.{Beyond}

-- the site in row r and column c
abbrev pub site_at : ℕ → ℕ → ℕ → ℕ
site_at columns r c = r * columns + c

-- the row and the column of a site
abbrev pub row_of : ℕ → ℕ → ℕ
row_of columns v = v / columns

abbrev pub column_of : ℕ → ℕ → ℕ
column_of columns v = v % columns

-- two numbers one apart
abbrev pub one_apart : ℕ → ℕ → Bool
one_apart a b = a + 1 == b || b + 1 == a

-- row r, column c and row p, column q are neighbours: beside each other in a row, or in a column
abbrev pub neighbours : ℕ → ℕ → ℕ → ℕ → Bool
neighbours r c p q = (r == p && one_apart c q) || (c == q && one_apart r p)

-- 1 where a test holds
abbrev pub one : Bool → ℕ
one t = cond t 1 0

-- how many neighbours row r, column c lacks: above, under, left, right
abbrev pub missing : ℕ → ℕ → ℕ → ℕ → ℕ
missing rows columns r c = one (r == 0) + one (r + 1 == rows) + one (c == 0) + one (c + 1 == columns)

-- the grid: one link to each neighbour, one to the drain for each that is missing
unfoldable pub grid_of : ℕ → ℕ → Shape
grid_of rows columns = record {
  sites = rows * columns;
  m = λ u v. cond (nat_lt u (rows * columns) && nat_lt v (rows * columns))
      (one (neighbours (row_of columns u) (column_of columns u) (row_of columns v) (column_of columns v))) 0;
  s = λ v. cond (nat_lt v (rows * columns)) (missing rows columns (row_of columns v) (column_of columns v)) 0;
}

-- sides are from 1 to 64
abbrev pub grid_checks : ℕ → ℕ → List Check
grid_checks rows columns = record { row = row.Limit; when = λ p. (p ≡ 0) × (Beyond 1 64 rows ⊎ Beyond 1 64 columns) } ∷ []

-- the same by places: rows and columns of sites undo each other, and links and drain links are those of the places
pub record Placed (rows columns : ℕ) : Type 0 where
  pub row_back : (r c : ℕ) → c < columns → row_of columns (site_at columns r c) ≡ r
  pub column_back : (r c : ℕ) → c < columns → column_of columns (site_at columns r c) ≡ c
  pub site_back : (v : ℕ) → site_at columns (row_of columns v) (column_of columns v) ≡ v
  pub links : (r c p q : ℕ) → r < rows → c < columns → p < rows → q < columns
      → (grid_of rows columns).m (site_at columns r c) (site_at columns p q) ≡ one (neighbours r c p q)
  pub drain : (r c : ℕ) → r < rows → c < columns → (grid_of rows columns).s (site_at columns r c) ≡ missing rows columns r c
