-- A ring is a board.
use Rattle.std.specs.Prelude.{◌≡◌, ℕ, ◌+◌, ◌-◌, ◌<◌, ◌≤◌, Bool, true, false, cond, ◌&&◌, ◌||◌, ◌⊎◌, ◌==◌, ◌≢◌, nat_lt, refl}
use Rattle.std.proofs.Common.{sym, ◌∙◌, ap}
use Rattle.std.proofs.Math.Logic.{inl, inr}
use native.Mathlib.Omega.{arith}
use Rattle.std.proofs.lemmas.Bool.{cases_lt, cases_eq, cond-true, cond-false, and_from, and_left, and_right, or_from, or_left, or_right, lt-ltb, le-ltb, eq-eqb, ne_eqb}
use Rattle.board.specs.Shape.{Sound, row_total}
use Rattle.board.specs.Sums.{sum_up, sum_plus, sum_only, sum_const}
use Rattle.ring.specs.Rings.{after, ring_of, Sides}

after_last : (n v : ℕ) → v + 1 ≡ n → after n v ≡ 0
after_last n v e = cond-true (v + 1 == n) 0 (v + 1) (eq-eqb (v + 1) n e)

after_next : (n v : ℕ) → (v + 1 ≢ n) → after n v ≡ v + 1
after_next n v e = cond-false (v + 1 == n) 0 (v + 1) (ne_eqb (v + 1) n e)

pub after_is : (n v : ℕ) → ((v + 1 ≡ n) × (after n v ≡ 0)) ⊎ ((v + 1 ≢ n) × (after n v ≡ v + 1))
after_is n v = elim (cases_eq (v + 1) n) [ inl e ↦ inl (e, after_last n v e) | inr e ↦ inr (e, after_next n v e) ]

one_le : (t : Bool) → cond t 1 0 ≤ 1
one_le true = omega arith
one_le false = omega arith

or_swap : (p q : Bool) → (p || q) ≡ (q || p)
or_swap true true = refl
or_swap true false = refl
or_swap false true = refl
or_swap false false = refl

module _ (n : ℕ) where
  pub m_in : (u v : ℕ) → u < n → v < n → (ring_of n).m u v ≡ cond (after n u == v || after n v == u) 1 0
  unfolding ring_of
  m_in u v a b = cond-true (nat_lt u n && nat_lt v n) _ 0 (and_from _ _ (lt-ltb u n a) (lt-ltb v n b))

  pub m_off : (u v : ℕ) → n ≤ v → (ring_of n).m u v ≡ 0
  unfolding ring_of
  m_off u v h = cond-false (nat_lt u n && nat_lt v n) _ 0 (and_right _ _ (le-ltb v n h))

  pub m_off_left : (u v : ℕ) → n ≤ u → (ring_of n).m u v ≡ 0
  unfolding ring_of
  m_off_left u v h = cond-false (nat_lt u n && nat_lt v n) _ 0 (and_left _ _ (le-ltb u n h))

  pub m_zero : (u v : ℕ) → (after n u ≢ v) → (after n v ≢ u) → (ring_of n).m u v ≡ 0
  m_zero u v p q = elim (cases_lt u n) [
    | inl a ↦ elim (cases_lt v n) [
      | inl b ↦ m_in u v a b ∙ cond-false _ 1 0 (or_from (after n u == v) (after n v == u) (ne_eqb (after n u) v p) (ne_eqb (after n v) u q))
      | inr b ↦ m_off u v b
    ]
    | inr a ↦ m_off_left u v a
  ]

  pub m_one : (u v : ℕ) → u < n → v < n → (after n u ≡ v) ⊎ (after n v ≡ u) → (ring_of n).m u v ≡ 1
  m_one u v a b (inl e) = m_in u v a b ∙ cond-true _ 1 0 (or_left (after n u == v) (after n v == u) (eq-eqb (after n u) v e))
  m_one u v a b (inr e) = m_in u v a b ∙ cond-true _ 1 0 (or_right (after n u == v) (after n v == u) (eq-eqb (after n v) u e))

  m_sym : (u v : ℕ) → (ring_of n).m u v ≡ (ring_of n).m v u
  m_sym u v = elim (cases_lt u n) [
    | inl a ↦ elim (cases_lt v n) [
      | inl b ↦ m_in u v a b ∙ ap (λ t. cond t 1 0) (or_swap (after n u == v) (after n v == u)) ∙ sym (m_in v u b a)
      | inr b ↦ m_off u v b ∙ sym (m_off_left v u b)
    ]
    | inr a ↦ m_off_left u v a ∙ sym (m_off v u a)
  ]

  m_two : (u v : ℕ) → (ring_of n).m u v ≤ cond (after n u == v) 1 0 + cond (after n v == u) 1 0
  m_two u v = elim (cases_lt u n) [
    | inl a ↦ elim (cases_lt v n) [ inl b ↦ omega (arith, m_in u v a b, both (after n u == v) (after n v == u)) | inr b ↦ omega (arith, m_off u v b) ]
    | inr a ↦ omega (arith, m_off_left u v a)
  ] where
    both : (p q : Bool) → cond (p || q) 1 0 ≤ cond p 1 0 + cond q 1 0
    both true true = omega arith
    both true false = omega arith
    both false true = omega arith
    both false false = omega arith

  -- the site before u
  before : ℕ → ℕ
  before u = cond (u == 0) (n - 1) (u - 1)

  before_is : (u k : ℕ) → after n k ≡ u → k ≡ before u
  unfolding before
  before_is u k e = elim (after_is n k) [
    | inl a ↦ omega (arith, cond-true (u == 0) (n - 1) (u - 1) (eq-eqb u 0 (omega arith)))
    | inr a ↦ omega (arith, cond-false (u == 0) (n - 1) (u - 1) (ne_eqb u 0 (λ z. omega arith)))
  ]

  row_le : (u : ℕ) → row_total (ring_of n) u ≤ 2
  row_le u =
      let f : ℕ → ℕ = λ v. cond (after n u == v) 1 0 in
      let g : ℕ → ℕ = λ v. cond (after n v == u) 1 0 in
      omega (
        arith,
        sum_up (ring_of n).sites ((ring_of n).m u) (λ v. f v + g v) (λ v h. m_two u v),
        sum_plus (ring_of n).sites f g,
        sum_only (ring_of n).sites (after n u) 1 f (one_le _) (λ k ne. cond-false _ 1 0 (ne_eqb (after n u) k (λ e. ne (sym e)))),
        sum_only (ring_of n).sites (before u) 1 g (one_le _) (λ k ne. cond-false _ 1 0 (ne_eqb (after n k) u (λ e. ne (before_is u k e)))),
      )

  s_le : (v : ℕ) → (ring_of n).s v ≤ 1
  unfolding ring_of
  s_le v = one_le (v == 0)

  module _ (low : 3 ≤ n) where
    pub ring_sound : n ≤ 4096 → Sound (ring_of n)
    unfolding ring_of
    ring_sound few = record {
      some = omega arith;
      few = few;
      symmetric = m_sym;
      no_loop = λ v. m_zero v v (λ e. elim (after_is n v) [ inl a ↦ omega arith | inr a ↦ omega arith ]) (λ e. elim (after_is n v) [ inl a ↦ omega arith | inr a ↦ omega arith ]);
      off = m_off;
      off_drain = λ v h. cond-false (v == 0) 1 0 (ne_eqb v 0 (λ e. omega arith));
      total = omega (arith, sum_const n 2 (row_total (ring_of n)) (λ k l. row_le k), sum_const n 1 (ring_of n).s (λ k l. s_le k));
    }

    -- the three kinds of sites: the first, the last, and those between
    no_other_at : (v low high : ℕ) → ((k : ℕ) → after n v ≡ k → (k ≡ low) ⊎ (k ≡ high)) → ((k : ℕ) → after n k ≡ v → (k ≡ low) ⊎ (k ≡ high))
        → (k : ℕ) → (k ≢ low) → (k ≢ high) → (ring_of n).m v k ≡ 0
    no_other_at v low high p q k a b = m_zero v k
        (λ e. elim (p k e) [ inl x ↦ a x | inr x ↦ b x ])
        (λ e. elim (q k e) [ inl x ↦ a x | inr x ↦ b x ])

    pub sides_first : Sides n 0 1 (n - 1)
    sides_first = record {
      order = omega arith;
      to_low = m_one 0 1 (omega arith) (omega arith) (inl (omega (arith, after_next n 0 (λ e. omega arith))));
      to_high = m_one 0 (n - 1) (omega arith) (omega arith) (inr (after_last n (n - 1) (omega arith)));
      no_other = no_other_at 0 1 (n - 1)
          (λ k e. inl (omega (arith, after_next n 0 (λ z. omega arith))))
          (λ k e. elim (after_is n k) [ inl a ↦ inr (omega arith) | inr a ↦ absurd (omega arith) ]);
    }

    pub sides_last : Sides n (n - 1) 0 (n - 2)
    sides_last = record {
      order = omega arith;
      to_low = m_one (n - 1) 0 (omega arith) (omega arith) (inl (after_last n (n - 1) (omega arith)));
      to_high = m_one (n - 1) (n - 2) (omega arith) (omega arith) (inr (omega (arith, after_next n (n - 2) (λ e. omega arith))));
      no_other = no_other_at (n - 1) 0 (n - 2)
          (λ k e. inl (omega (arith, after_last n (n - 1) (omega arith))))
          (λ k e. elim (after_is n k) [ inl a ↦ absurd (omega arith) | inr a ↦ inr (omega arith) ]);
    }

    pub sides_between : (v : ℕ) → (v ≢ 0) → (v ≢ n - 1) → v < n → Sides n v (v - 1) (v + 1)
    sides_between v z l on = record {
      order = omega arith;
      to_low = m_one v (v - 1) on (omega arith) (inr (omega (arith, after_next n (v - 1) (λ e. omega arith), z)));
      to_high = m_one v (v + 1) on (omega (arith, l)) (inl (after_next n v (λ e. l (omega arith))));
      no_other = no_other_at v (v - 1) (v + 1)
          (λ k e. inr (omega (arith, after_next n v (λ x. l (omega arith)))))
          (λ k e. elim (after_is n k) [ inl a ↦ absurd (z (omega arith)) | inr a ↦ inl (omega arith) ]);
    }
