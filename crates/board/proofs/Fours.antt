-- A site of a grid has four links: one for each neighbour, and one to the drain for each that is missing.
use Rattle.std.proofs.Common.{◌≡◌, ℕ, ◌+◌, ◌-◌, ◌*◌, ◌<◌, ◌≤◌, Bool, true, false, cond, eqb, sym, refl, ap, ◌∙◌, inl, inr, mul-le-mul_right, arith}
use Rattle.std.proofs.lemmas.Bool.{cases_lt, cases_Bool, cond-true, cond-false, eq-eqb, ne_eqb, both_ways}
use Rattle.board.specs.Shape.{deg, sum_below}
use Rattle.board.specs.Grids.{row_of, column_of, neighbours, one, grid_of}
use Rattle.board.specs.Sums.{sum_same, sum_none, sum_plus, sum_at}
use Rattle.board.specs.Walks.{deg_is}
use Rattle.board.specs.Places.{split, column_lt, row_lt, on_grid, near, is_above, is_left, is_right, is_under, joined_above, joined_left, joined_right, joined_under, right_on, left_on}
use Rattle.board.specs.GridsLemmas.{sites_are, m_in, s_in}

-- 1 at the place a, and 0 elsewhere; 0 everywhere where the neighbour is missing
abbrev pick : Bool → ℕ → ℕ → ℕ
pick missing a k = cond missing 0 (cond (eqb a k) 1 0)

pick_on : (t : Bool) (a k : ℕ) → t ≡ false → a ≡ k → pick t a k ≡ 1
pick_on t a k there e = cond-false t 0 (cond (eqb a k) 1 0) there ∙ cond-true (eqb a k) 1 0 (eq-eqb a k e)

pick_off : (t : Bool) (a k : ℕ) → (t ≡ false → a ≡ k → ⊥) → pick t a k ≡ 0
pick_off true a k never = refl
pick_off false a k never = cond-false (eqb a k) 1 0 (ne_eqb a k (never refl))

pick_sum : (n : ℕ) (t : Bool) (a : ℕ) → (t ≡ false → a < n) → sum_below n (pick t a) + one t ≡ 1
pick_sum n true a on = omega (arith, sum_none n (λ k. 0) (λ k l. refl))
pick_sum n false a on = omega (arith, sum_at n a 1 (on refl))

unlike : (a b : ℕ) → eqb a b ≡ false → a ≡ b → ⊥
unlike a b differ e = both_ways (eqb a b) differ (eq-eqb a b e)

module _ (rows columns : ℕ) (some : 1 ≤ columns) (v : ℕ) (on : v < rows * columns) where
  abbrev row : ℕ
  row = row_of columns v

  abbrev column : ℕ
  column = column_of columns v

  -- which neighbours are missing
  abbrev no_above : Bool
  no_above = eqb row 0

  abbrev no_under : Bool
  no_under = eqb (row + 1) rows

  abbrev no_left : Bool
  no_left = eqb column 0

  abbrev no_right : Bool
  no_right = eqb (column + 1) columns

  above_there : columns ≤ v → no_above ≡ false
  above_there h = ne_eqb row 0 (λ e. omega (arith, split columns some v, column_lt columns some v, ap (λ t. t * columns) e))

  there_above : no_above ≡ false → columns ≤ v
  there_above has =
      let one-row : 1 ≤ row = elim (cases_lt 0 row) [ inl l ↦ l | inr l ↦ absurd (unlike row 0 has (omega arith)) ] in
      omega (arith, split columns some v, mul-le-mul_right columns one-row)

  under_there : v + columns < rows * columns → no_under ≡ false
  under_there h = ne_eqb (row + 1) rows (λ e. omega (arith, split columns some v, ap (λ t. t * columns) e))

  there_under : no_under ≡ false → v + columns < rows * columns
  there_under has =
      let next_row : row + 1 < rows = elim (cases_lt (row + 1) rows) [ inl l ↦ l | inr l ↦ absurd (unlike (row + 1) rows has (omega (arith, row_lt columns some rows v on))) ] in
      omega (arith, split columns some v, on_grid columns some rows (row + 1) column next_row (column_lt columns some v))

  there_left : no_left ≡ false → 0 < column
  there_left has = elim (cases_lt 0 column) [ inl l ↦ l | inr l ↦ absurd (unlike column 0 has (omega arith)) ]

  there_right : no_right ≡ false → column + 1 < columns
  there_right has = elim (cases_lt (column + 1) columns) [ inl l ↦ l | inr l ↦ absurd (unlike (column + 1) columns has (omega (arith, column_lt columns some v))) ]

  four_ways : ℕ → ℕ
  four_ways k = (pick no_above (v - columns) k + pick no_under (v + columns) k) + (pick no_left (v - 1) k + pick no_right (v + 1) k)

  by_four : (k : ℕ) → k < rows * columns → (grid_of rows columns).m v k ≡ four_ways k
  unfolding four_ways
  by_four k l = elim (cases_Bool (neighbours row column (row_of columns k) (column_of columns k))) [
    | inl t ↦ (let m : (grid_of rows columns).m v k ≡ 1 = m_in rows columns v k on l ∙ ap one t in elim (near columns some v k t) [
      | is_above e ↦ omega (
        arith,
        pick_on no_above (v - columns) k (above_there (omega arith)) (omega arith),
        pick_off no_under (v + columns) k (λ has q. omega arith),
        pick_off no_left (v - 1) k (λ has q. omega (arith, there_left has, column_lt columns some v)),
        pick_off no_right (v + 1) k (λ has q. omega arith),
      )
      | is_left h e ↦ omega (
        arith,
        pick_off no_above (v - columns) k (λ has q. omega (arith, there_above has, column_lt columns some v)),
        pick_off no_under (v + columns) k (λ has q. omega arith),
        pick_on no_left (v - 1) k (ne_eqb column 0 (λ z. omega arith)) (omega arith),
        pick_off no_right (v + 1) k (λ has q. omega arith),
      )
      | is_right h e ↦ omega (
        arith,
        pick_off no_above (v - columns) k (λ has q. omega arith),
        pick_off no_under (v + columns) k (λ has q. omega arith),
        pick_off no_left (v - 1) k (λ has q. omega arith),
        pick_on no_right (v + 1) k (ne_eqb (column + 1) columns (λ z. omega arith)) (omega arith),
      )
      | is_under e ↦ omega (
        arith,
        pick_off no_above (v - columns) k (λ has q. omega arith),
        pick_on no_under (v + columns) k (under_there (omega arith)) (omega arith),
        pick_off no_left (v - 1) k (λ has q. omega arith),
        pick_off no_right (v + 1) k (λ has q. omega (arith, there_right has)),
      )
    ])
    | inr t ↦ omega (
      arith,
      m_in rows columns v k on l,
      ap one t,
      pick_off no_above (v - columns) k (λ has q. both_ways _ t (joined_above columns some v k (omega (arith, there_above has)))),
      pick_off no_under (v + columns) k (λ has q. both_ways _ t (joined_under columns some v k (sym q))),
      pick_off no_left (v - 1) k (λ has q. both_ways _ t (joined_left columns some v k (there_left has) (omega (arith, left_on columns some v (there_left has))))),
      pick_off no_right (v + 1) k (λ has q. both_ways _ t (joined_right columns some v k (there_right has) (sym q))),
    )
  ]

  pub four : deg (grid_of rows columns) v ≡ 4
  unfolding four_ways
  four =
      let n : ℕ = rows * columns in
      let above : ℕ → ℕ = pick no_above (v - columns) in
      let under : ℕ → ℕ = pick no_under (v + columns) in
      let left : ℕ → ℕ = pick no_left (v - 1) in
      let right : ℕ → ℕ = pick no_right (v + 1) in
      omega (
        arith,
        deg_is (grid_of rows columns) v,
        ap (λ x. sum_below x ((grid_of rows columns).m v)) (sites_are rows columns),
        s_in rows columns v on,
        sum_same n ((grid_of rows columns).m v) (λ k. (above k + under k) + (left k + right k)) by_four,
        sum_plus n (λ k. above k + under k) (λ k. left k + right k),
        sum_plus n above under,
        sum_plus n left right,
        pick_sum n no_above (v - columns) (λ has. omega arith),
        pick_sum n no_under (v + columns) there_under,
        pick_sum n no_left (v - 1) (λ has. omega arith),
        pick_sum n no_right (v + 1) (λ has. right_on columns some rows v on (there_right has)),
      )
