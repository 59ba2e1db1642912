-- A site left out: the sites around it, a sum without it, a search that passes it over.
use Rattle.std.specs.Prelude.{◌≡◌, ℕ, ◌+◌, ◌-◌, ◌<◌, ◌≤◌, ◌⊎◌, ◌==◌, ◌≢◌, nat_lt, refl}
use Rattle.std.proofs.Common.{sym, ◌∙◌, ap, inl, inr, arith}
use Rattle.std.proofs.lemmas.Bool.{cases_lt, cases_eq, cond-true, cond-false, lt-ltb, le-ltb, eq-eqb, ne_eqb}
use Rattle.board.specs.Shape.{Least, sum_below}
use Rattle.layer.specs.Layers.{up, but}
use Rattle.board.specs.Sums.{sum_suc, sum_add, sum_same}

pub up_below : (w v : ℕ) → v < w → up w v ≡ v
up_below w v h = cond-true (nat_lt v w) v (v + 1) (lt-ltb v w h)

pub up_above : (w v : ℕ) → w ≤ v → up w v ≡ v + 1
up_above w v h = cond-false (nat_lt v w) v (v + 1) (le-ltb v w h)

pub up_is : (w v : ℕ) → ((v < w) × (up w v ≡ v)) ⊎ ((w ≤ v) × (up w v ≡ v + 1))
up_is w v = elim (cases_lt v w) [ inl l ↦ inl (l, up_below w v l) | inr l ↦ inr (l, up_above w v l) ]

pub up_lt : (w j k : ℕ) → j < k → up w j < up w k
up_lt w j k h = elim (up_is w j) [
  | inl a ↦ elim (up_is w k) [ inl b ↦ omega arith | inr b ↦ omega arith ]
  | inr a ↦ elim (up_is w k) [ inl b ↦ omega arith | inr b ↦ omega arith ]
]

pub up_le : (w j k : ℕ) → j ≤ k → up w j ≤ up w k
up_le w j k h = elim (up_is w j) [
  | inl a ↦ elim (up_is w k) [ inl b ↦ omega arith | inr b ↦ omega arith ]
  | inr a ↦ elim (up_is w k) [ inl b ↦ omega arith | inr b ↦ omega arith ]
]

pub up_back : (w j k : ℕ) → up w j ≤ up w k → j ≤ k
up_back w j k h = elim (cases_lt k j) [ inl l ↦ omega (arith, up_lt w k j l) | inr l ↦ l ]

pub up_not : (w k : ℕ) → up w k ≢ w
up_not w k e = elim (up_is w k) [ inl a ↦ omega arith | inr a ↦ omega arith ]

-- the sum without the term at w
pub sum_drop : (n w : ℕ) (f : ℕ → ℕ) → w < n → sum_below n f ≡ sum_below (n - 1) (λ k. f (up w k)) + f w
sum_drop n w f h =
    let d : ℕ = n - (w + 1) in
    let whole : sum_below n f ≡ sum_below ((w + 1) + d) f = ap (λ x. sum_below x f) (omega arith) in
    let part : sum_below (n - 1) (λ k. f (up w k)) ≡ sum_below (w + d) (λ k. f (up w k)) = ap (λ x. sum_below x (λ k. f (up w k))) (omega arith) in
    let low = sum_same w (λ k. f (up w k)) f (λ k l. ap f (up_below w k l)) in
    let high = sum_same d (λ k. f (up w (w + k))) (λ k. f ((w + 1) + k)) (λ k l. ap f (up_above w (w + k) (omega arith) ∙ omega arith)) in
    omega (arith, whole, part, sum_add (w + 1) d f, sum_suc w f, sum_add w d (λ k. f (up w k)), low, high)

pub but_not : (w u : ℕ) (f : ℕ → ℕ) → 0 < but w f u → u ≢ w
but_not w u f h e = omega (arith, cond-true (w == u) 0 (f u) (eq-eqb w u (sym e)))

pub but_at : (w : ℕ) (f : ℕ → ℕ) → but w f w ≡ 0
but_at w f = cond-true (w == w) 0 (f w) (eq-eqb w w refl)

pub but_else : (w k : ℕ) (f : ℕ → ℕ) → (k ≢ w) → but w f k ≡ f k
but_else w k f h = cond-false (w == k) 0 (f k) (ne_eqb w k (λ e. h (sym e)))

pub but_none : (w k : ℕ) (f : ℕ → ℕ) → f k ≡ 0 → but w f k ≡ 0
but_none w k f e = elim (cases_eq k w) [ inl p ↦ cond-true (w == k) 0 (f k) (eq-eqb w k (sym p)) | inr p ↦ but_else w k f p ∙ e ]

pub but_up : (w k : ℕ) (f : ℕ → ℕ) → but w f (up w k) ≡ f (up w k)
but_up w k f = but_else w (up w k) f (up_not w k)

-- a search below that passes w over, seen from the layer: g is f where w is left out
module _ (w : ℕ) (f g : ℕ → ℕ) (same : (k : ℕ) → g k ≡ f (up w k)) where
  pub none_up : (j j1 : ℕ) → j1 ≡ up w j → ((k : ℕ) → j1 ≤ k → but w f k ≡ 0) → (k : ℕ) → j ≤ k → g k ≡ 0
  none_up j j1 ej none k h = same k ∙ sym (but_up w k f) ∙ none (up w k) (omega (arith, up_le w j k h))

  pub least_down : (j j1 u d : ℕ) → j1 ≡ up w j → Least (but w f) j1 u → u ≡ up w d → Least g j d
  least_down j j1 u d ej least eu = record {
    from = up_back w j d (omega (arith, least.from));
    linked = omega (arith, same d, but_up w d f, ap (but w f) eu, least.linked);
    before = λ k from less. same k ∙ sym (but_up w k f) ∙ least.before (up w k) (omega (arith, up_le w j k from)) (omega (arith, up_lt w k d less));
  }
