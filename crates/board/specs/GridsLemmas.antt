-- A grid is a board.
use Rattle.std.specs.Prelude.{◌≡◌, ℕ, ◌+◌, ◌-◌, ◌*◌, ◌<◌, ◌≤◌, Bool, ◌&&◌, ◌==◌, nat_lt}
use Rattle.std.proofs.Math.Path.{refl}
use Rattle.std.proofs.Common.{sym, ◌∙◌, ap, inl, inr}
use Rattle.std.proofs.Math.Nat.{mul-le-mul}
use native.Mathlib.Omega.{arith}
use Rattle.std.proofs.lemmas.Bool.{cases_lt, cases_Bool, cond-true, cond-false, and_from, and_left, and_right, lt-ltb, le-ltb, eq-eqb, ne_eqb}
use Rattle.board.specs.Shape.{Sound, Least, row_total}
use Rattle.board.specs.Grids.{row_of, column_of, site_at, neighbours, one, missing, grid_of, Placed}
use Rattle.board.specs.Sums.{sum_plus, sum_up, sum_only, sum_const}
use Rattle.board.specs.Places.{one_le, missing_le, neighbours_sym, neighbours_not, split, row_at, column_at, on_grid, Near, is_above, is_left, is_right, is_under, near, Joined, joined_above, joined_left, joined_right, joined_under, right_on, left_on}

module _ (rows columns : ℕ) where
  -- whether two sites are neighbours
  abbrev test : ℕ → ℕ → Bool
  test u v = neighbours (row_of columns u) (column_of columns u) (row_of columns v) (column_of columns v)

  pub sites_are : (grid_of rows columns).sites ≡ rows * columns
  unfolding grid_of
  sites_are = refl

  pub m_in : (u v : ℕ) → u < rows * columns → v < rows * columns
      → (grid_of rows columns).m u v ≡ one (neighbours (row_of columns u) (column_of columns u) (row_of columns v) (column_of columns v))
  unfolding grid_of
  m_in u v a b = cond-true (nat_lt u (rows * columns) && nat_lt v (rows * columns)) _ 0 (and_from _ _ (lt-ltb u (rows * columns) a) (lt-ltb v (rows * columns) b))

  pub m_off : (u v : ℕ) → rows * columns ≤ v → (grid_of rows columns).m u v ≡ 0
  unfolding grid_of
  m_off u v h = cond-false (nat_lt u (rows * columns) && nat_lt v (rows * columns)) _ 0 (and_right _ _ (le-ltb v (rows * columns) h))

  pub m_off_left : (u v : ℕ) → rows * columns ≤ u → (grid_of rows columns).m u v ≡ 0
  unfolding grid_of
  m_off_left u v h = cond-false (nat_lt u (rows * columns) && nat_lt v (rows * columns)) _ 0 (and_left _ _ (le-ltb u (rows * columns) h))

  pub s_off : (v : ℕ) → rows * columns ≤ v → (grid_of rows columns).s v ≡ 0
  unfolding grid_of
  s_off v h = cond-false (nat_lt v (rows * columns)) _ 0 (le-ltb v (rows * columns) h)

  pub s_in : (v : ℕ) → v < rows * columns → (grid_of rows columns).s v ≡ missing rows columns (row_of columns v) (column_of columns v)
  unfolding grid_of
  s_in v h = cond-true (nat_lt v (rows * columns)) _ 0 (lt-ltb v (rows * columns) h)

  m_sym : (u v : ℕ) → (grid_of rows columns).m u v ≡ (grid_of rows columns).m v u
  m_sym u v = elim (cases_lt u (rows * columns)) [
    | inl a ↦ elim (cases_lt v (rows * columns)) [
      | inl b ↦ m_in u v a b ∙ ap one (neighbours_sym (row_of columns u) (column_of columns u) (row_of columns v) (column_of columns v)) ∙ sym (m_in v u b a)
      | inr b ↦ m_off u v b ∙ sym (m_off_left v u b)
    ]
    | inr a ↦ m_off_left u v a ∙ sym (m_off v u a)
  ]

  m_none : (v : ℕ) → (grid_of rows columns).m v v ≡ 0
  m_none v = elim (cases_lt v (rows * columns)) [
    | inl a ↦ m_in v v a a ∙ ap one (neighbours_not (row_of columns v) (column_of columns v))
    | inr a ↦ m_off v v a
  ]

  s_le : (v : ℕ) → (grid_of rows columns).s v ≤ 4
  s_le v = elim (cases_lt v (rows * columns)) [
    | inl l ↦ omega (arith, s_in v l, missing_le rows columns (row_of columns v) (column_of columns v))
    | inr l ↦ omega (arith, s_off v l)
  ]

  module _ (some : 1 ≤ columns) where
    -- a site that is none of the four neighbours
    m_zero : (v k : ℕ) → (Near columns some v k → k < rows * columns → ⊥) → (grid_of rows columns).m v k ≡ 0
    m_zero v k off = elim (cases_lt v (rows * columns)) [
      | inl a ↦ elim (cases_lt k (rows * columns)) [
        | inl b ↦ elim (cases_Bool (test v k)) [
          | inl t ↦ absurd (off (near columns some v k t) b)
          | inr t ↦ m_in v k a b ∙ ap one t
        ]
        | inr b ↦ m_off v k b
      ]
      | inr a ↦ m_off_left v k a
    ]

    m_one : (v k : ℕ) → v < rows * columns → k < rows * columns → Joined columns some v k → 0 < (grid_of rows columns).m v k
    m_one v k a b j = omega (arith, m_in v k a b, ap one j)

    -- one for each of the four at the most
    m_four : (v k : ℕ) → (grid_of rows columns).m v k ≤ (one (k + columns == v) + one (k + 1 == v)) + (one (k == v + 1) + one (k == v + columns))
    m_four v k = elim (cases_lt v (rows * columns)) [
      | inl a ↦ elim (cases_lt k (rows * columns)) [
        | inl b ↦ elim (cases_Bool (test v k)) [
          | inl t ↦ elim (near columns some v k t) [
            | is_above e ↦ omega (arith, m_in v k a b, ap one t, ap one (eq-eqb (k + columns) v e))
            | is_left h e ↦ omega (arith, m_in v k a b, ap one t, ap one (eq-eqb (k + 1) v e))
            | is_right h e ↦ omega (arith, m_in v k a b, ap one t, ap one (eq-eqb k (v + 1) e))
            | is_under e ↦ omega (arith, m_in v k a b, ap one t, ap one (eq-eqb k (v + columns) e))
          ]
          | inr t ↦ omega (arith, m_in v k a b, ap one t)
        ]
        | inr b ↦ omega (arith, m_off v k b)
      ]
      | inr a ↦ omega (arith, m_off_left v k a)
    ]

    row_le : (v : ℕ) → row_total (grid_of rows columns) v ≤ 4
    row_le v =
        let n : ℕ = (grid_of rows columns).sites in
        let f1 : ℕ → ℕ = λ k. one (k + columns == v) in
        let f2 : ℕ → ℕ = λ k. one (k + 1 == v) in
        let f3 : ℕ → ℕ = λ k. one (k == v + 1) in
        let f4 : ℕ → ℕ = λ k. one (k == v + columns) in
        omega (
          arith,
          sum_up n ((grid_of rows columns).m v) (λ k. (f1 k + f2 k) + (f3 k + f4 k)) (λ k h. m_four v k),
          sum_plus n (λ k. f1 k + f2 k) (λ k. f3 k + f4 k),
          sum_plus n f1 f2,
          sum_plus n f3 f4,
          sum_only n (v - columns) 1 f1 (one_le _) (λ k ne. ap one (ne_eqb (k + columns) v (λ e. ne (omega arith)))),
          sum_only n (v - 1) 1 f2 (one_le _) (λ k ne. ap one (ne_eqb (k + 1) v (λ e. ne (omega arith)))),
          sum_only n (v + 1) 1 f3 (one_le _) (λ k ne. ap one (ne_eqb k (v + 1) ne)),
          sum_only n (v + columns) 1 f4 (one_le _) (λ k ne. ap one (ne_eqb k (v + columns) ne)),
        )

    pub grid_sound : 1 ≤ rows → rows ≤ 64 → columns ≤ 64 → Sound (grid_of rows columns)
    unfolding grid_of
    grid_sound r1 r64 c64 =
        let few : rows * columns ≤ 64 * 64 = mul-le-mul r64 c64 in
        let all : 1 * 1 ≤ rows * columns = mul-le-mul r1 some in
        record {
          some = all;
          few = few;
          symmetric = m_sym;
          no_loop = m_none;
          off = m_off;
          off_drain = s_off;
          total = omega (
            arith,
            sum_const (rows * columns) 4 (row_total (grid_of rows columns)) (λ k l. row_le k),
            sum_const (rows * columns) 4 (grid_of rows columns).s (λ k l. s_le k),
          );
        }

    pub placed : Placed rows columns
    placed = record {
      row_back = λ r c h. row_at columns some r c _ h refl;
      column_back = λ r c h. column_at columns some r c _ h refl;
      site_back = split columns some;
      links = λ r c p q hr hc hp hq.
          m_in (site_at columns r c) (site_at columns p q) (on_grid columns some rows r c hr hc) (on_grid columns some rows p q hp hq)
          ∙ ap (λ x. one (neighbours x (column_of columns (site_at columns r c)) (row_of columns (site_at columns p q)) (column_of columns (site_at columns p q)))) (row_at columns some r c _ hc refl)
          ∙ ap (λ x. one (neighbours r x (row_of columns (site_at columns p q)) (column_of columns (site_at columns p q)))) (column_at columns some r c _ hc refl)
          ∙ ap (λ x. one (neighbours r c x (column_of columns (site_at columns p q)))) (row_at columns some p q _ hq refl)
          ∙ ap (λ x. one (neighbours r c p x)) (column_at columns some p q _ hq refl);
      drain = λ r c hr hc.
          s_in (site_at columns r c) (on_grid columns some rows r c hr hc)
          ∙ ap (λ x. missing rows columns x (column_of columns (site_at columns r c))) (row_at columns some r c _ hc refl)
          ∙ ap (missing rows columns r) (column_at columns some r c _ hc refl);
    }

    -- the search of `next` for v from j
    module _ (v j : ℕ) (on : v < rows * columns) where
      -- a neighbour that is there stands before j
      abbrev pub NoAbove : Type 0
      NoAbove = columns ≤ v → v - columns < j

      abbrev pub NoLeft : Type 0
      NoLeft = 0 < column_of columns v → v - 1 < j

      abbrev pub NoRight : Type 0
      NoRight = column_of columns v + 1 < columns → v + 1 < j

      abbrev pub NoUnder : Type 0
      NoUnder = v + columns < rows * columns → v + columns < j

      pub next_above : columns ≤ v → j ≤ v - columns → Least ((grid_of rows columns).m v) j (v - columns)
      next_above h from = record {
        from = from;
        linked = m_one v (v - columns) on (omega arith) (joined_above columns some v (v - columns) (omega arith));
        before = λ k a b. m_zero v k (λ n l. elim n [ is_above e ↦ omega arith | is_left p e ↦ omega arith | is_right p e ↦ omega arith | is_under e ↦ omega arith ]);
      }

      pub next_left : NoAbove → 0 < column_of columns v → j ≤ v - 1 → Least ((grid_of rows columns).m v) j (v - 1)
      next_left a h from =
          let one : 1 ≤ v = left_on columns some v h in
          record {
            from = from;
            linked = m_one v (v - 1) on (omega arith) (joined_left columns some v (v - 1) h (omega arith));
            before = λ k f b. m_zero v k (λ n l. elim n [ is_above e ↦ omega (arith, a (omega arith)) | is_left p e ↦ omega arith | is_right p e ↦ omega arith | is_under e ↦ omega arith ]);
          }

      pub next_right : NoAbove → NoLeft → column_of columns v + 1 < columns → j ≤ v + 1 → Least ((grid_of rows columns).m v) j (v + 1)
      next_right a l h from = record {
        from = from;
        linked = m_one v (v + 1) on (right_on columns some rows v on h) (joined_right columns some v (v + 1) h refl);
        before = λ k f b. m_zero v k (λ n o. elim n [ is_above e ↦ omega (arith, a (omega arith)) | is_left p e ↦ omega (arith, l p) | is_right p e ↦ omega arith | is_under e ↦ omega arith ]);
      }

      pub next_under : NoAbove → NoLeft → NoRight → v + columns < rows * columns → j ≤ v + columns → Least ((grid_of rows columns).m v) j (v + columns)
      next_under a l r h from = record {
        from = from;
        linked = m_one v (v + columns) on h (joined_under columns some v (v + columns) refl);
        before = λ k f b. m_zero v k (λ n o. elim n [ is_above e ↦ omega (arith, a (omega arith)) | is_left p e ↦ omega (arith, l p) | is_right p e ↦ omega (arith, r p) | is_under e ↦ omega arith ]);
      }

      pub next_none : NoAbove → NoLeft → NoRight → NoUnder → (k : ℕ) → j ≤ k → (grid_of rows columns).m v k ≡ 0
      next_none a l r d k f = m_zero v k (λ n o. elim n [ is_above e ↦ omega (arith, a (omega arith)) | is_left p e ↦ omega (arith, l p) | is_right p e ↦ omega (arith, r p) | is_under e ↦ omega (arith, d (omega arith)) ])
