-- Sums over a table of links.
use Rattle.std.specs.Prelude.{◌≡◌, ℕ, zero, suc, ◌+◌, ◌<◌, ◌≤◌, Bool, true, false, cond, not, ◌&&◌, ◌||◌, ◌⊎◌, List, [], ◌∷◌, ◌++◌, length, take, sum_by, get_or, Some, None, ◌==◌, ◌≢◌, nat_eq, nat_lt, slice_index_or, slice_set, refl}
use Rattle.std.proofs.Common.{sym, ◌∙◌, inl, inr, add-one, arith, get_or-set_same, get_or-set_other}
use Rattle.std.proofs.Math.Path.{ap}
use Rattle.std.proofs.Math.Seq.{get_or-append_seam}
use Rattle.std.proofs.lemmas.List.{take_all, length-append, get_or_append_left}
use Rattle.std.proofs.lemmas.List.Sums.{fold_more, sum_by_push}
use Rattle.std.proofs.lemmas.Bool.{cases_lt, cases_eq, cases_Bool, and_left, and_right, cond-true, cond-false, and_parts, not-true, ltb-true, eqb-true, eqb-false, eq-eqb, ne_eqb, and_from, lt-ltb, not_from_false, or_cases, false≢true}
use Rattle.board.specs.Shape.{sum_below}
use Rattle.board.specs.Sums.{sum_suc, sum_same, sum_none, sum_plus, sum_swap, sum_at, sum_more, sum_const, sum_term}
use Rattle.board.specs.declared.link.End.{End}
use Rattle.board.specs.declared.link.End.TheVariants.{Site, Drain}
use Rattle.board.specs.declared.link.Link.{Link}
use Rattle.board.specs.Links.{no_link, joins, drains, between, to_drain, far, weight, Fit, fits, FitsAll, m_of, s_of, weights, alike, Low, Misfit, all_fit}

-- the test says the fact
pub fits_true : (n a : ℕ) (b : End) → fits n a b ≡ true → Fit n a b
fits_true n a (Site y) e =
    let p = and_parts (nat_lt a n) (nat_lt y n && not (a == y)) e in
    let q = and_parts (nat_lt y n) (not (a == y)) p.1 in
    (ltb-true a n p.0, ltb-true y n q.0, eqb-false a y (not-true (a == y) q.1))
fits_true n a Drain e = ltb-true a n e

pub fit_fits : (n a : ℕ) (b : End) → Fit n a b → fits n a b ≡ true
fit_fits n a (Site y) h =
    and_from (nat_lt a n) (nat_lt y n && not (a == y)) (lt-ltb a n h.0)
    (and_from (nat_lt y n) (not (a == y)) (lt-ltb y n h.1) (not_from_false (a == y) (ne_eqb a y h.2)))
fit_fits n a Drain h = lt-ltb a n h

-- either order
or_swap : (p q : Bool) → (p || q) ≡ (q || p)
or_swap true true = refl
or_swap true false = refl
or_swap false true = refl
or_swap false false = refl

joins_sym : (a : ℕ) (b : End) (u v : ℕ) → joins a b u v ≡ joins a b v u
joins_sym a (Site y) u v = or_swap (a == u && y == v) (a == v && y == u)
joins_sym a Drain u v = refl

pub between_sym : (l : Link) (u v : ℕ) → between l u v ≡ between l v u
between_sym l u v = ap (λ t. cond t l.count 0) (joins_sym l.site l.other u v)

pub m_of_sym : (xs : List Link) (k u v : ℕ) → m_of xs k u v ≡ m_of xs k v u
unfolding m_of
m_of_sym xs k u v = sum_same k _ _ (λ i h. between_sym (slice_index_or xs i no_link) u v)

-- the two ways of a pair, apart
split_bits : (p q r t : Bool) (c : ℕ) → (((p && q) ≡ true) → ((r && t) ≡ true) → ⊥)
    → cond ((p && q) || (r && t)) c 0 ≡ cond q (cond p c 0) 0 + cond r (cond t c 0) 0
split_bits true true true true c h = absurd (h refl refl)
split_bits true true true false c h = omega arith
split_bits true true false true c h = omega arith
split_bits true true false false c h = omega arith
split_bits true false true true c h = omega arith
split_bits true false true false c h = refl
split_bits true false false true c h = refl
split_bits true false false false c h = refl
split_bits false true true true c h = omega arith
split_bits false true true false c h = refl
split_bits false true false true c h = refl
split_bits false true false false c h = refl
split_bits false false true true c h = omega arith
split_bits false false true false c h = refl
split_bits false false false true c h = refl
split_bits false false false false c h = refl

split_pair : (a y c u v : ℕ) → (a ≢ y) → cond (joins a (Site y) u v) c 0 ≡ cond (y == v) (cond (a == u) c 0) 0 + cond (a == v) (cond (y == u) c 0) 0
split_pair a y c u v apart = split_bits (a == u) (y == v) (a == v) (y == u) c (λ p q.
    let p1 = and_parts (a == u) (y == v) p in
    let q1 = and_parts (a == v) (y == u) q in
    apart (eqb-true a u p1.0 ∙ sym (eqb-true y u q1.1)))

-- one record, over the whole board
pub one_weight : (n a : ℕ) (b : End) (c : ℕ) → Fit n a b
    → sum_below n (λ u. sum_below n (λ v. cond (joins a b u v) c 0)) + sum_below n (λ v. cond (drains a b v) c 0) ≡ weight b c
one_weight n a (Site y) c h =
    let row : (u : ℕ) → sum_below n (λ v. cond (joins a (Site y) u v) c 0) ≡ cond (a == u) c 0 + cond (y == u) c 0
    = λ u. sum_same n _ _ (λ v l. split_pair a y c u v h.2)
    ∙ omega (
      arith,
      sum_plus n (λ v. cond (y == v) (cond (a == u) c 0) 0) (λ v. cond (a == v) (cond (y == u) c 0) 0),
      sum_at n y (cond (a == u) c 0) h.1,
      sum_at n a (cond (y == u) c 0) h.0,
    ) in
    omega (
      arith,
      sum_same n _ _ (λ u l. row u),
      sum_plus n (λ u. cond (a == u) c 0) (λ u. cond (y == u) c 0),
      sum_at n a c h.0,
      sum_at n y c h.1,
      sum_none n (λ v. 0) (λ v l. refl),
    )
one_weight n a Drain c h =
    omega (arith, sum_none n (λ u. sum_below n (λ v. 0)) (λ u l. sum_none n (λ v. 0) (λ v l. refl)), sum_at n a c h)

-- all links of a table
pub table_total : (xs : List Link) (k n : ℕ) → FitsAll xs k n
    → sum_below n (λ u. sum_below n (m_of xs k u)) + sum_below n (s_of xs k) ≡ weights xs k
unfolding m_of s_of weights
table_total xs k n fit =
    let f : ℕ → ℕ → ℕ → ℕ = λ u v i. between (slice_index_or xs i no_link) u v in
    let d : ℕ → ℕ → ℕ = λ v i. to_drain (slice_index_or xs i no_link) v in
    let inner = sum_same n (λ u. sum_below n (λ v. sum_below k (f u v))) (λ u. sum_below k (λ i. sum_below n (λ v. f u v i))) (λ u l. sum_swap n k (f u)) in
    let outer = sum_swap n k (λ u i. sum_below n (λ v. f u v i)) in
    let each = sum_same k (λ i. sum_below n (λ u. sum_below n (λ v. f u v i)) + sum_below n (λ v. d v i)) (λ i. weight (get_or xs i no_link).other (get_or xs i no_link).count)
    (λ i l. one_weight n (get_or xs i no_link).site (get_or xs i no_link).other (get_or xs i no_link).count (fits_true n _ _ (fit i l).0)) in
    omega (arith, inner, outer, sum_swap n k d, each, sum_plus k (λ i. sum_below n (λ u. sum_below n (λ v. f u v i))) (λ i. sum_below n (λ v. d v i)))

-- one more record
grow : (f : Link → ℕ) (xs : List Link) (k : ℕ) (l : Link) → k < length xs
    → sum_below (k + 1) (λ i. f (slice_index_or (slice_set xs k l) i no_link)) ≡ sum_below k (λ i. f (slice_index_or xs i no_link)) + f l
grow f xs k l h =
    let same = sum_same k (λ i. f (slice_index_or (slice_set xs k l) i no_link)) (λ i. f (slice_index_or xs i no_link)) (λ i less. ap f (get_or-set_other xs k i l no_link (omega arith))) in
    omega (arith, sum_suc k (λ i. f (slice_index_or (slice_set xs k l) i no_link)), same, ap f (get_or-set_same xs k l no_link h))

pub grow_m : (xs : List Link) (k : ℕ) (l : Link) → k < length xs → (u v : ℕ) → m_of (slice_set xs k l) (k + 1) u v ≡ m_of xs k u v + between l u v
unfolding m_of
grow_m xs k l h u v = grow (λ x. between x u v) xs k l h

pub grow_s : (xs : List Link) (k : ℕ) (l : Link) → k < length xs → (v : ℕ) → s_of (slice_set xs k l) (k + 1) v ≡ s_of xs k v + to_drain l v
unfolding s_of
grow_s xs k l h v = grow (λ x. to_drain x v) xs k l h

pub grow_weight : (xs : List Link) (k : ℕ) (l : Link) → k < length xs → weights (slice_set xs k l) (k + 1) ≡ weights xs k + weight l.other l.count
unfolding weights
grow_weight xs k l h = grow (λ x. weight x.other x.count) xs k l h

pub grow_fit : (xs : List Link) (k n : ℕ) (l : Link) → k < length xs → FitsAll xs k n → Fit n l.site l.other → 1 ≤ l.count → FitsAll (slice_set xs k l) (k + 1) n
grow_fit xs k n l h all fit one i less = elim (cases_lt i k) [
  | inl lt ↦ let at : get_or (slice_set xs k l) i no_link ≡ get_or xs i no_link = get_or-set_other xs k i l no_link (omega arith) in rw at (all i lt)
  | inr ge ↦
      let same : i ≡ k = omega arith in
      let at : get_or (slice_set xs k l) i no_link ≡ l = ap (λ j. get_or (slice_set xs k l) j no_link) same ∙ get_or-set_same xs k l no_link h in
      (ap (λ (x : Link). fits n x.site x.other) at ∙ fit_fits n l.site l.other fit, omega (arith, ap (λ (x : Link). x.count) at))
]

-- a whole table
sum_front : (f : Link → ℕ) (xs : List Link) (k : ℕ) → k ≤ length xs → sum_below k (λ i. f (slice_index_or xs i no_link)) ≡ sum_by f (take k xs)
unfolding sum_below
sum_front f xs zero h = refl
sum_front f xs (suc k) h =
    let next : k + 1 ≡ suc k = add-one k in
    omega (arith, sum_front f xs k (omega arith), fold_more (λ a x. a + f x) 0 xs k no_link (omega arith), ap (λ n. sum_by f (take n xs)) next)

sum_whole : (f : Link → ℕ) (xs : List Link) → sum_below (length xs) (λ i. f (slice_index_or xs i no_link)) ≡ sum_by f xs
sum_whole f xs = sum_front f xs (length xs) (omega arith) ∙ ap (sum_by f) (take_all (length xs) xs (omega arith))

pub m_of_whole : (xs : List Link) (u v : ℕ) → m_of xs (length xs) u v ≡ sum_by (λ l. between l u v) xs
unfolding m_of
m_of_whole xs u v = sum_whole (λ l. between l u v) xs

pub s_of_whole : (xs : List Link) (v : ℕ) → s_of xs (length xs) v ≡ sum_by (λ l. to_drain l v) xs
unfolding s_of
s_of_whole xs v = sum_whole (λ l. to_drain l v) xs

weights_whole : (xs : List Link) → weights xs (length xs) ≡ sum_by (λ l. weight l.other l.count) xs
unfolding weights
weights_whole xs = sum_whole (λ l. weight l.other l.count) xs

-- a table and one record more
pub m_of_push : (xs : List Link) (l : Link) (u v : ℕ) → m_of (xs ++ l ∷ []) (length (xs ++ l ∷ [])) u v ≡ m_of xs (length xs) u v + between l u v
m_of_push xs l u v = omega (arith, m_of_whole (xs ++ l ∷ []) u v, m_of_whole xs u v, sum_by_push (λ x. between x u v) xs l)

pub s_of_push : (xs : List Link) (l : Link) (v : ℕ) → s_of (xs ++ l ∷ []) (length (xs ++ l ∷ [])) v ≡ s_of xs (length xs) v + to_drain l v
s_of_push xs l v = omega (arith, s_of_whole (xs ++ l ∷ []) v, s_of_whole xs v, sum_by_push (λ x. to_drain x v) xs l)

pub weights_push : (xs : List Link) (l : Link) → weights (xs ++ l ∷ []) (length (xs ++ l ∷ [])) ≡ weights xs (length xs) + weight l.other l.count
weights_push xs l = omega (arith, weights_whole (xs ++ l ∷ []), weights_whole xs, sum_by_push (λ x. weight x.other x.count) xs l)

pub fits_push : (xs : List Link) (n : ℕ) (l : Link) → FitsAll xs (length xs) n → Fit n l.site l.other → 1 ≤ l.count → FitsAll (xs ++ l ∷ []) (length (xs ++ l ∷ [])) n
fits_push xs n l all fit one i less = elim (cases_lt i (length xs)) [
  | inl lt ↦ let at : get_or (xs ++ l ∷ []) i no_link ≡ get_or xs i no_link = get_or_append_left xs (l ∷ []) no_link i lt in rw at (all i lt)
  | inr ge ↦
      let same : i ≡ length xs = omega (arith, length-append xs (l ∷ [])) in
      let at : get_or (xs ++ l ∷ []) i no_link ≡ l = ap (λ j. get_or (xs ++ l ∷ []) j no_link) same ∙ get_or-append_seam xs l [] no_link in
      (ap (λ (x : Link). fits n x.site x.other) at ∙ fit_fits n l.site l.other fit, omega (arith, ap (λ (x : Link). x.count) at))
]

-- steps of a loop over the records
pub m_of_none : (xs : List Link) (u v : ℕ) → m_of xs 0 u v ≡ 0
unfolding m_of sum_below
m_of_none xs u v = refl

pub s_of_none : (xs : List Link) (v : ℕ) → s_of xs 0 v ≡ 0
unfolding s_of sum_below
s_of_none xs v = refl

pub weights_none : (xs : List Link) → weights xs 0 ≡ 0
unfolding weights sum_below
weights_none xs = refl

pub m_of_more : (xs : List Link) (k u v : ℕ) → m_of xs (k + 1) u v ≡ m_of xs k u v + between (slice_index_or xs k no_link) u v
unfolding m_of
m_of_more xs k u v = sum_suc k _

pub s_of_more : (xs : List Link) (k v : ℕ) → s_of xs (k + 1) v ≡ s_of xs k v + to_drain (slice_index_or xs k no_link) v
unfolding s_of
s_of_more xs k v = sum_suc k _

pub m_of_up : (xs : List Link) (i k u v : ℕ) → i ≤ k → m_of xs i u v ≤ m_of xs k u v
unfolding m_of
m_of_up xs i k u v h = sum_more i k _ h

pub s_of_up : (xs : List Link) (i k v : ℕ) → i ≤ k → s_of xs i v ≤ s_of xs k v
unfolding s_of
s_of_up xs i k v h = sum_more i k _ h

-- a record that fits has no loop, and nothing off the board
between_not : (n a c : ℕ) (b : End) → Fit n a b → (u v : ℕ) → ((u ≡ v) ⊎ (n ≤ v)) → cond (joins a b u v) c 0 ≡ 0
between_not n a c (Site y) h u v (inl same) =
    split_pair a y c u v h.2 ∙ elim (cases_eq a v) [
      | inl p ↦ omega (
        arith,
        cond-false (y == v) (cond (a == u) c 0) 0 (ne_eqb y v (λ q. h.2 (p ∙ sym q))),
        cond-true (a == v) (cond (y == u) c 0) 0 (eq-eqb a v p),
        cond-false (y == u) c 0 (ne_eqb y u (λ q. h.2 (p ∙ sym (q ∙ same)))),
      )
      | inr p ↦
          let first : cond (y == v) (cond (a == u) c 0) 0 ≡ 0 = elim (cases_eq y v) [
            | inl q ↦ cond-true (y == v) (cond (a == u) c 0) 0 (eq-eqb y v q) ∙ cond-false (a == u) c 0 (ne_eqb a u (λ r. p (r ∙ same)))
            | inr q ↦ cond-false (y == v) (cond (a == u) c 0) 0 (ne_eqb y v q)
          ] in
          omega (arith, cond-false (a == v) (cond (y == u) c 0) 0 (ne_eqb a v p))
    ]
between_not n a c (Site y) h u v (inr off) =
    split_pair a y c u v h.2 ∙ omega (arith, cond-false (y == v) (cond (a == u) c 0) 0 (ne_eqb y v (λ q. omega arith)), cond-false (a == v) (cond (y == u) c 0) 0 (ne_eqb a v (λ q. omega arith)))
between_not n a c Drain h u v e = refl

pub m_of_not : (xs : List Link) (k n : ℕ) → FitsAll xs k n → (u v : ℕ) → ((u ≡ v) ⊎ (n ≤ v)) → m_of xs k u v ≡ 0
unfolding m_of
m_of_not xs k n fit u v e = sum_none k _ (λ i l. between_not n _ (get_or xs i no_link).count _ (fits_true n (get_or xs i no_link).site (get_or xs i no_link).other (fit i l).0) u v e)

drained_off : (n a c : ℕ) (b : End) → Fit n a b → (v : ℕ) → n ≤ v → cond (drains a b v) c 0 ≡ 0
drained_off n a c (Site y) h v e = refl
drained_off n a c Drain h v e = cond-false (a == v) c 0 (ne_eqb a v (λ q. omega arith))

pub s_of_off : (xs : List Link) (k n : ℕ) → FitsAll xs k n → (v : ℕ) → n ≤ v → s_of xs k v ≡ 0
unfolding s_of
s_of_off xs k n fit v e = sum_none k _ (λ i l. drained_off n _ (get_or xs i no_link).count _ (fits_true n (get_or xs i no_link).site (get_or xs i no_link).other (fit i l).0) v e)

-- what a record links v to
far_is : (n a c : ℕ) (b : End) → Fit n a b → (v k : ℕ) → cond (joins a b v k) c 0 ≡ elim (far a b v) [ Some w ↦ cond (w == k) c 0 | None ↦ 0 ]
far_is n a c (Site y) h v k = go (a == v) (y == v) refl refl where
  go : (p q : Bool) → (a == v) ≡ p → (y == v) ≡ q
      → cond ((p && y == k) || (a == k && q)) c 0 ≡ elim (cond p (Some y) (cond q (Some a) None)) [ Some w ↦ cond (w == k) c 0 | None ↦ 0 ]
  go true true e f = absurd (h.2 (eqb-true a v e ∙ sym (eqb-true y v f)))
  go true false e f = tidy (y == k) (a == k) where
    tidy : (s t : Bool) → cond (s || (t && false)) c 0 ≡ cond s c 0
    tidy true t = refl
    tidy false true = refl
    tidy false false = refl
  go false true e f = tidy (a == k) where
    tidy : (t : Bool) → cond (t && true) c 0 ≡ cond t c 0
    tidy true = refl
    tidy false = refl
  go false false e f = tidy (a == k) where
    tidy : (t : Bool) → cond (t && false) c 0 ≡ 0
    tidy true = refl
    tidy false = refl
far_is n a c Drain h v k = refl

pub between_far : (n : ℕ) (l : Link) → Fit n l.site l.other → (v k : ℕ) → between l v k ≡ elim (far l.site l.other v) [ Some w ↦ cond (w == k) l.count 0 | None ↦ 0 ]
between_far n l h v k = far_is n l.site l.count l.other h v k

-- few low entries have a low sum
cond_low : (t : Bool) (x y : ℕ) → x ≤ y → cond t x 0 ≤ y
cond_low true x y h = h
cond_low false x y h = omega arith

pub m_of_low : (xs : List Link) (i n u v : ℕ) → i < n → n ≤ 32 → Low xs n → m_of xs (i + 1) u v ≤ 16000000
unfolding m_of
m_of_low xs i n u v less few low =
    omega (arith, sum_const (i + 1) 500000 (λ k. between (slice_index_or xs k no_link) u v) (λ k h. cond_low (joins (get_or xs k no_link).site (get_or xs k no_link).other u v) (get_or xs k no_link).count 500000 (low k (omega arith))))

pub s_of_low : (xs : List Link) (i n v : ℕ) → i < n → n ≤ 32 → Low xs n → s_of xs (i + 1) v ≤ 16000000
unfolding s_of
s_of_low xs i n v less few low =
    omega (arith, sum_const (i + 1) 500000 (λ k. to_drain (slice_index_or xs k no_link) v) (λ k h. cond_low (drains (get_or xs k no_link).site (get_or xs k no_link).other v) (get_or xs k no_link).count 500000 (low k (omega arith))))

-- an entry of the same pair joins the same sites
pub alike_joins : (a : ℕ) (b : End) (c : ℕ) (d : End) → alike a b c d ≡ true → (u v : ℕ) → joins a b u v ≡ joins c d u v
alike_joins a (Site y) c (Site z) e u v = elim (or_cases (a == c && y == z) (a == z && y == c) e) [
  | inl p ↦ let q = and_parts (a == c) (y == z) p in
      ap (λ s. joins s (Site y) u v) (eqb-true a c q.0) ∙ ap (λ s. joins c (Site s) u v) (eqb-true y z q.1)
  | inr p ↦ let q = and_parts (a == z) (y == c) p in
      ap (λ s. joins s (Site y) u v) (eqb-true a z q.0) ∙ ap (λ s. joins z (Site s) u v) (eqb-true y c q.1) ∙ turned z c u v
] where
  and_swap : (p q : Bool) → (p && q) ≡ (q && p)
  and_swap true true = refl
  and_swap true false = refl
  and_swap false true = refl
  and_swap false false = refl

  turned : (s t u v : ℕ) → joins s (Site t) u v ≡ joins t (Site s) u v
  turned s t u v = or_swap (s == u && t == v) (s == v && t == u) ∙ ap (λ p. p || (s == u && t == v)) (and_swap (s == v) (t == u)) ∙ ap (λ p. (t == u && s == v) || p) (and_swap (s == u) (t == v))
alike_joins a (Site y) c Drain e u v = absurd (false≢true e)
alike_joins a Drain c (Site z) e u v = absurd (false≢true e)
alike_joins a Drain c Drain e u v = refl

pub alike_drains : (a : ℕ) (b : End) (c : ℕ) (d : End) → alike a b c d ≡ true → (v : ℕ) → drains a b v ≡ drains c d v
alike_drains a (Site y) c (Site z) e v = refl
alike_drains a (Site y) c Drain e v = absurd (false≢true e)
alike_drains a Drain c (Site z) e v = absurd (false≢true e)
alike_drains a Drain c Drain e v = ap (λ s. nat_eq s v) (eqb-true a c e)

cond_plus : (t : Bool) (x y : ℕ) → cond t (x + y) 0 ≡ cond t x 0 + cond t y 0
cond_plus true x y = refl
cond_plus false x y = refl

-- one entry changed
raise : (f : Link → ℕ) (xs : List Link) (n i d : ℕ) (l : Link) → i < n → n ≤ length xs → f l ≡ f (slice_index_or xs i no_link) + d
    → sum_below n (λ k. f (slice_index_or (slice_set xs i l) k no_link)) ≡ sum_below n (λ k. f (slice_index_or xs k no_link)) + d
raise f xs n i d l on fit e =
    let same : (k : ℕ) → k < n → f (slice_index_or (slice_set xs i l) k no_link) ≡ f (slice_index_or xs k no_link) + cond (i == k) d 0
    = λ k h. elim (cases_eq i k) [
      | inl p ↦ omega (arith, cond-true (i == k) d 0 (eq-eqb i k p), ap f (ap (λ j. get_or (slice_set xs i l) j no_link) (sym p) ∙ get_or-set_same xs i l no_link (omega arith)), ap (λ j. f (slice_index_or xs j no_link)) p)
      | inr p ↦ omega (arith, cond-false (i == k) d 0 (ne_eqb i k p), ap f (get_or-set_other xs i k l no_link (λ q. p (sym q))))
    ] in
    omega (arith, sum_same n _ _ same, sum_plus n (λ k. f (slice_index_or xs k no_link)) (λ k. cond (i == k) d 0), sum_at n i d on)

module _ (xs : List Link) (n i a : ℕ) (b : End) (k : ℕ) (on : i < n) (fit : n ≤ length xs) (same : alike (get_or xs i no_link).site (get_or xs i no_link).other a b ≡ true) where
  pub raise_m : (u v : ℕ) → m_of (slice_set xs i (record { site = (get_or xs i no_link).site; other = (get_or xs i no_link).other; count = (get_or xs i no_link).count + k })) n u v
      ≡ m_of xs n u v + between (record { site = a; other = b; count = k }) u v
  unfolding m_of
  raise_m u v =
      let x : Link = get_or xs i no_link in
      raise (λ l. between l u v) xs n i (cond (joins a b u v) k 0) (record { site = x.site; other = x.other; count = x.count + k }) on fit
      (cond_plus (joins x.site x.other u v) x.count k ∙ ap (λ t. cond (joins x.site x.other u v) x.count 0 + cond t k 0) (alike_joins x.site x.other a b same u v))

  pub raise_s : (v : ℕ) → s_of (slice_set xs i (record { site = (get_or xs i no_link).site; other = (get_or xs i no_link).other; count = (get_or xs i no_link).count + k })) n v
      ≡ s_of xs n v + to_drain (record { site = a; other = b; count = k }) v
  unfolding s_of
  raise_s v =
      let x : Link = get_or xs i no_link in
      raise (λ l. to_drain l v) xs n i (cond (drains a b v) k 0) (record { site = x.site; other = x.other; count = x.count + k }) on fit
      (cond_plus (drains x.site x.other v) x.count k ∙ ap (λ t. cond (drains x.site x.other v) x.count 0 + cond t k 0) (alike_drains x.site x.other a b same v))

-- one entry is at most the sum
pub m_of_term : (xs : List Link) (n i u v : ℕ) → i < n → between (slice_index_or xs i no_link) u v ≤ m_of xs n u v
unfolding m_of
m_of_term xs n i u v h = sum_term n i _ h

pub s_of_term : (xs : List Link) (n i v : ℕ) → i < n → to_drain (slice_index_or xs i no_link) v ≤ s_of xs n v
unfolding s_of
s_of_term xs n i v h = sum_term n i _ h

-- entries stay low
pub low_set : (xs : List Link) (n i : ℕ) (l : Link) → i < length xs → l.count ≤ 500000 → ((k : ℕ) → k < n → (k ≢ i) → (get_or xs k no_link).count ≤ 500000) → Low (slice_set xs i l) n
low_set xs n i l on small low k h = elim (cases_eq k i) [
  | inl p ↦ omega (arith, ap (λ (x : Link). x.count) (ap (λ j. get_or (slice_set xs i l) j no_link) p ∙ get_or-set_same xs i l no_link on))
  | inr p ↦ omega (arith, ap (λ (x : Link). x.count) (get_or-set_other xs i k l no_link p), low k h p)
]

-- ends that fit are not refused
pub fit_quiet : (n a : ℕ) (b : End) → Fit n a b → (p : ℕ) → Misfit n a b p → ⊥
fit_quiet n a (Site y) h p (inl m) = omega arith
fit_quiet n a (Site y) h p (inr m) = elim m.2 [ inl l ↦ omega arith | inr l ↦ h.2 (sym l) ]
fit_quiet n a Drain h p m = omega arith

pub weight_le : (b : End) (k : ℕ) → k ≤ weight b k
weight_le (Site y) k = omega arith
weight_le Drain k = omega arith

pub misfit_fits : (n a : ℕ) (b : End) (p : ℕ) → Misfit n a b p → fits n a b ≡ false
misfit_fits n a b p m = elim (cases_Bool (fits n a b)) [ inl t ↦ absurd (fit_quiet n a b (fits_true n a b t) p m) | inr f ↦ f ]

-- all entries on a board
pub all_fit_none : (n : ℕ) (xs : List Link) → all_fit n xs 0 ≡ true
unfolding all_fit
all_fit_none n xs = refl

pub all_fit_more : (n k : ℕ) (xs : List Link) → all_fit n xs (k + 1) ≡ (all_fit n xs k && fits n (get_or xs k no_link).site (get_or xs k no_link).other)
unfolding all_fit
all_fit_more n k xs = rw add-one refl

pub all_fit_bad : (n i k : ℕ) (xs : List Link) → i < k → fits n (get_or xs i no_link).site (get_or xs i no_link).other ≡ false → all_fit n xs k ≡ false
unfolding all_fit
all_fit_bad n i zero xs h e = absurd (omega arith)
all_fit_bad n i (suc k) xs h e = elim (cases_eq i k) [
  | inl p ↦ and_right (all_fit n xs k) (fits n (get_or xs k no_link).site (get_or xs k no_link).other) (ap (λ j. fits n (get_or xs j no_link).site (get_or xs j no_link).other) (sym p) ∙ e)
  | inr p ↦ and_left (all_fit n xs k) (fits n (get_or xs k no_link).site (get_or xs k no_link).other) (all_fit_bad n i k xs (omega arith) e)
]

pub all_fit_same : (n k : ℕ) (xs ys : List Link)
    → ((i : ℕ) → i < k → fits n (get_or ys i no_link).site (get_or ys i no_link).other ≡ fits n (get_or xs i no_link).site (get_or xs i no_link).other)
    → all_fit n ys k ≡ all_fit n xs k
unfolding all_fit
all_fit_same n zero xs ys e = refl
all_fit_same n (suc k) xs ys e =
    ap (λ t. t && fits n (get_or ys k no_link).site (get_or ys k no_link).other) (all_fit_same n k xs ys (λ i h. e i (omega arith)))
    ∙ ap (λ t. all_fit n xs k && t) (e k (omega arith))

-- a new entry
pub all_fit_new : (n k : ℕ) (xs : List Link) (l : Link) → k < length xs
    → all_fit n (slice_set xs k l) (k + 1) ≡ (all_fit n xs k && fits n l.site l.other)
all_fit_new n k xs l h =
    all_fit_more n k (slice_set xs k l)
    ∙ ap (λ t. t && fits n (get_or (slice_set xs k l) k no_link).site (get_or (slice_set xs k l) k no_link).other)
    (all_fit_same n k xs (slice_set xs k l) (λ i less. ap (λ (x : Link). fits n x.site x.other) (get_or-set_other xs k i l no_link (omega arith))))
    ∙ ap (λ (x : Link). all_fit n xs k && fits n x.site x.other) (get_or-set_same xs k l no_link h)

-- an entry changed in its number alone
pub all_fit_raised : (n k i c : ℕ) (xs : List Link) → i < length xs
    → all_fit n (slice_set xs i (record { site = (get_or xs i no_link).site; other = (get_or xs i no_link).other; count = c })) k ≡ all_fit n xs k
all_fit_raised n k i c xs h =
    let l : Link = record { site = (get_or xs i no_link).site; other = (get_or xs i no_link).other; count = c } in
    all_fit_same n k xs (slice_set xs i l) (λ j less. elim (cases_eq j i) [
      | inl p ↦ ap (λ (x : Link). fits n x.site x.other) (ap (λ y. get_or (slice_set xs i l) y no_link) p ∙ get_or-set_same xs i l no_link h)
          ∙ ap (λ y. fits n (get_or xs y no_link).site (get_or xs y no_link).other) (sym p)
      | inr p ↦ ap (λ (x : Link). fits n x.site x.other) (get_or-set_other xs i j l no_link p)
    ])
