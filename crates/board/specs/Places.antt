-- Rows and columns of sites, and the neighbours of a site.
use Rattle.std.specs.Prelude.{◌≡◌, ℕ, ◌+◌, ◌-◌, ◌*◌, ◌/◌, ◌%◌, ◌<◌, ◌≤◌, Bool, true, false, ◌&&◌, ◌||◌, ◌⊎◌, ◌==◌, refl}
use Rattle.std.proofs.Common.{sym, ◌∙◌, ap, inl, inr, mul-le-mul_right, div-add-mod', mod-lt, arith}
use Rattle.std.proofs.Math.Arith.{digits_div, digits_mod}
use Rattle.std.proofs.lemmas.Bool.{cases_lt, cases_Bool, and_parts, and_from, or_cases, or_left, or_right, eqb-true, eq-eqb, ne_eqb, or_from}
use Rattle.board.specs.Grids.{row_of, column_of, site_at, one_apart, neighbours, one, missing}

pub one_le : (t : Bool) → one t ≤ 1
one_le true = omega arith
one_le false = omega arith

pub missing_le : (rows columns r c : ℕ) → missing rows columns r c ≤ 4
missing_le rows columns r c = omega (arith, one_le (r == 0), one_le (r + 1 == rows), one_le (c == 0), one_le (c + 1 == columns))

or_swap : (p q : Bool) → (p || q) ≡ (q || p)
or_swap true true = refl
or_swap true false = refl
or_swap false true = refl
or_swap false false = refl

eqb_sym : (a b : ℕ) → (a == b) ≡ (b == a)
eqb_sym a b = elim (cases_Bool (a == b)) [
  | inl t ↦ t ∙ sym (eq-eqb b a (sym (eqb-true a b t)))
  | inr f ↦ elim (cases_Bool (b == a)) [
    | inl t ↦ eq-eqb a b (sym (eqb-true b a t)) ∙ sym t
    | inr g ↦ f ∙ sym g
  ]
]

apart_sym : (a b : ℕ) → one_apart a b ≡ one_apart b a
apart_sym a b = or_swap (a + 1 == b) (b + 1 == a)

pub neighbours_sym : (r c p q : ℕ) → neighbours r c p q ≡ neighbours p q r c
neighbours_sym r c p q =
    ap (λ t. (t && one_apart c q) || (c == q && one_apart r p)) (eqb_sym r p)
    ∙ ap (λ t. (p == r && t) || (c == q && one_apart r p)) (apart_sym c q)
    ∙ ap (λ t. (p == r && one_apart q c) || (t && one_apart r p)) (eqb_sym c q)
    ∙ ap (λ t. (p == r && one_apart q c) || (q == c && t)) (apart_sym r p)

apart_not : (a : ℕ) → one_apart a a ≡ false
apart_not a = or_from (a + 1 == a) (a + 1 == a) (ne_eqb (a + 1) a (λ e. omega arith)) (ne_eqb (a + 1) a (λ e. omega arith))

pub neighbours_not : (r c : ℕ) → neighbours r c r c ≡ false
neighbours_not r c = ap (λ t. (r == r && t) || (c == c && one_apart r r)) (apart_not c)
    ∙ ap (λ t. (r == r && false) || (c == c && t)) (apart_not r) ∙ none (r == r) (c == c) where
      none : (s t : Bool) → ((s && false) || (t && false)) ≡ false
      none true true = refl
      none true false = refl
      none false true = refl
      none false false = refl

apart_cases : (a b : ℕ) → one_apart a b ≡ true → (a + 1 ≡ b) ⊎ (b + 1 ≡ a)
apart_cases a b e = elim (or_cases (a + 1 == b) (b + 1 == a) e) [
  | inl t ↦ inl (eqb-true (a + 1) b t)
  | inr t ↦ inr (eqb-true (b + 1) a t)
]

-- the four ways to be neighbours
pub data Way (r c p q : ℕ) : Type 0 where
  above : p + 1 ≡ r → c ≡ q → Way r c p q
  left : r ≡ p → q + 1 ≡ c → Way r c p q
  right : r ≡ p → c + 1 ≡ q → Way r c p q
  under : r + 1 ≡ p → c ≡ q → Way r c p q

way : (r c p q : ℕ) → neighbours r c p q ≡ true → Way r c p q
way r c p q e = elim (or_cases (r == p && one_apart c q) (c == q && one_apart r p) e) [
  | inl t ↦ (let h = and_parts (r == p) (one_apart c q) t in elim (apart_cases c q h.1) [
    | inl x ↦ right (eqb-true r p h.0) x
    | inr x ↦ left (eqb-true r p h.0) x
  ])
  | inr t ↦ (let h = and_parts (c == q) (one_apart r p) t in elim (apart_cases r p h.1) [
    | inl x ↦ under x (eqb-true c q h.0)
    | inr x ↦ above x (eqb-true c q h.0)
  ])
]

pub beside : (r c d : ℕ) → one_apart c d ≡ true → neighbours r c r d ≡ true
beside r c d e = or_left (r == r && one_apart c d) (c == d && one_apart r r) (and_from (r == r) (one_apart c d) (eq-eqb r r refl) e)

pub stacked : (r p c : ℕ) → one_apart r p ≡ true → neighbours r c p c ≡ true
stacked r p c e = or_right (r == p && one_apart c c) (c == c && one_apart r p) (and_from (c == c) (one_apart r p) (eq-eqb c c refl) e)

pub apart_up : (a : ℕ) → one_apart a (a + 1) ≡ true
apart_up a = or_left (a + 1 == a + 1) ((a + 1) + 1 == a) (eq-eqb (a + 1) (a + 1) refl)

pub apart_down : (a b : ℕ) → b + 1 ≡ a → one_apart a b ≡ true
apart_down a b e = or_right (a + 1 == b) (b + 1 == a) (eq-eqb (b + 1) a e)

module _ (columns : ℕ) (some : 1 ≤ columns) where
  pub split : (v : ℕ) → site_at columns (row_of columns v) (column_of columns v) ≡ v
  split v = div-add-mod' v columns

  pub column_lt : (v : ℕ) → column_of columns v < columns
  column_lt v = mod-lt v some

  pub row_at : (r c v : ℕ) → c < columns → v ≡ site_at columns r c → row_of columns v ≡ r
  row_at r c v h e = ap (λ x. x / columns) e ∙ digits_div r h

  pub column_at : (r c v : ℕ) → c < columns → v ≡ site_at columns r c → column_of columns v ≡ c
  column_at r c v h e = ap (λ x. x % columns) e ∙ digits_mod r h

  -- a site of a row and a column on the grid is on the grid
  pub on_grid : (rows r c : ℕ) → r < rows → c < columns → site_at columns r c < rows * columns
  on_grid rows r c hr hc =
      let up : (r + 1) * columns ≤ rows * columns = mul-le-mul_right columns (omega arith) in
      omega arith

  pub row_lt : (rows v : ℕ) → v < rows * columns → row_of columns v < rows
  row_lt rows v h = elim (cases_lt (row_of columns v) rows) [
    | inl l ↦ l
    | inr l ↦ (let up : rows * columns ≤ row_of columns v * columns = mul-le-mul_right columns l in omega (arith, split v))
  ]

  -- whom v has for a neighbour, as a site
  pub data Near (v k : ℕ) : Type 0 where
    is_above : k + columns ≡ v → Near v k
    is_left : 0 < column_of columns v → k + 1 ≡ v → Near v k
    is_right : column_of columns v + 1 < columns → k ≡ v + 1 → Near v k
    is_under : k ≡ v + columns → Near v k

  pub near : (v k : ℕ) → neighbours (row_of columns v) (column_of columns v) (row_of columns k) (column_of columns k) ≡ true → Near v k
  near v k e =
      let sv = split v in
      let sk = split k in
      let lk = column_lt k in
      elim (way (row_of columns v) (column_of columns v) (row_of columns k) (column_of columns k) e) [
        | above x y ↦ is_above (omega (arith, ap (λ t. t * columns) x))
        | left x y ↦ is_left (omega arith) (omega (arith, ap (λ t. t * columns) x))
        | right x y ↦ is_right (omega arith) (omega (arith, ap (λ t. t * columns) x))
        | under x y ↦ is_under (omega (arith, ap (λ t. t * columns) x))
      ]

  -- the four neighbours, where they stand
  abbrev pub Joined : ℕ → ℕ → Type 0
  Joined v k = neighbours (row_of columns v) (column_of columns v) (row_of columns k) (column_of columns k) ≡ true

  joined_at : (v k p q : ℕ) → q < columns → k ≡ site_at columns p q → neighbours (row_of columns v) (column_of columns v) p q ≡ true → Joined v k
  joined_at v k p q h e n =
      ap (λ x. neighbours (row_of columns v) (column_of columns v) x (column_of columns k)) (row_at p q k h e)
      ∙ ap (neighbours (row_of columns v) (column_of columns v) p) (column_at p q k h e) ∙ n

  pub joined_above : (v k : ℕ) → k + columns ≡ v → Joined v k
  joined_above v k e =
      let r : ℕ = row_of columns v in
      let c : ℕ = column_of columns v in
      let pos : 0 < row_of columns v = elim (cases_lt 0 (row_of columns v)) [
        | inl l ↦ l
        | inr l ↦ omega (arith, split v, column_lt v, ap (λ t. t * columns) (none (row_of columns v) l))
      ] in
      let p : ℕ = row_of columns v - 1 in
      let up : p + 1 ≡ row_of columns v = omega arith in
      joined_at v k p c (column_lt v) (omega (arith, split v, ap (λ t. t * columns) up)) (stacked r p c (apart_down r p up)) where
        none : (x : ℕ) → x ≤ 0 → x ≡ 0
        none x h = omega arith

  pub joined_left : (v k : ℕ) → 0 < column_of columns v → k + 1 ≡ v → Joined v k
  joined_left v k h e =
      let r : ℕ = row_of columns v in
      let c : ℕ = column_of columns v in
      let q : ℕ = column_of columns v - 1 in
      let back : q + 1 ≡ column_of columns v = omega arith in
      joined_at v k r q (omega (arith, column_lt v)) (omega (arith, split v)) (beside r c q (apart_down c q back))

  pub joined_right : (v k : ℕ) → column_of columns v + 1 < columns → k ≡ v + 1 → Joined v k
  joined_right v k h e =
      let r : ℕ = row_of columns v in
      let c : ℕ = column_of columns v in
      joined_at v k r (c + 1) h (omega (arith, split v)) (beside r c (c + 1) (apart_up c))

  pub joined_under : (v k : ℕ) → k ≡ v + columns → Joined v k
  joined_under v k e =
      let r : ℕ = row_of columns v in
      let c : ℕ = column_of columns v in
      joined_at v k (r + 1) c (column_lt v) (omega (arith, split v)) (stacked r (r + 1) c (apart_up r))

  -- the last site of a row is the end of it
  pub right_on : (rows v : ℕ) → v < rows * columns → column_of columns v + 1 < columns → v + 1 < rows * columns
  right_on rows v on h = omega (arith, split v, on_grid rows (row_of columns v) (column_of columns v + 1) (row_lt rows v on) h)

  pub left_on : (v : ℕ) → 0 < column_of columns v → 1 ≤ v
  left_on v h = omega (arith, split v)
