-- Sums over the sites below a number.
use Rattle.std.specs.Prelude.{◌≡◌, ℕ, zero, suc, ◌+◌, ◌-◌, ◌*◌, ◌<◌, ◌≤◌, cond, ◌==◌, ◌≢◌, refl}
use Rattle.std.proofs.Common.{sym, ◌∙◌, ap, add-zero, add-suc, suc-mul, add-one, arith, inl, inr}
use Rattle.std.proofs.lemmas.Bool.{cases_eq, cond-true, cond-false, eq-eqb, ne_eqb}
use Rattle.board.specs.Shape.{sum_below}

pub sum_suc : (n : ℕ) (f : ℕ → ℕ) → sum_below (n + 1) f ≡ sum_below n f + f n
unfolding sum_below
sum_suc n f = rw add-one refl

pub sum_add : (j d : ℕ) (f : ℕ → ℕ) → sum_below (j + d) f ≡ sum_below j f + sum_below d (λ k. f (j + k))
unfolding sum_below
sum_add j zero f = simp add-zero
sum_add j (suc d) f = rw add-suc (omega (arith, sum_add j d f))

-- two functions that agree below n
pub sum_same : (n : ℕ) (f g : ℕ → ℕ) → ((k : ℕ) → k < n → f k ≡ g k) → sum_below n f ≡ sum_below n g
unfolding sum_below
sum_same zero f g e = refl
sum_same (suc n) f g e = omega (arith, sum_same n f g (λ k h. e k (omega arith)), e n (omega arith))

pub sum_none : (n : ℕ) (f : ℕ → ℕ) → ((k : ℕ) → k < n → f k ≡ 0) → sum_below n f ≡ 0
unfolding sum_below
sum_none zero f e = refl
sum_none (suc n) f e = omega (arith, sum_none n f (λ k h. e k (omega arith)), e n (omega arith))

pub sum_up : (n : ℕ) (f g : ℕ → ℕ) → ((k : ℕ) → k < n → f k ≤ g k) → sum_below n f ≤ sum_below n g
unfolding sum_below
sum_up zero f g e = omega arith
sum_up (suc n) f g e = omega (arith, sum_up n f g (λ k h. e k (omega arith)), e n (omega arith))

join : (j u : ℕ) → j ≤ u → j + (u - j) ≡ u
join j u h = omega arith

-- what is between j and u counts for nothing
pub sum_skip : (j u : ℕ) (f : ℕ → ℕ) → j ≤ u → ((k : ℕ) → j ≤ k → k < u → f k ≡ 0) → sum_below u f ≡ sum_below j f
sum_skip j u f h e =
    let z = sum_none (u - j) (λ k. f (j + k)) (λ k l. e (j + k) (omega arith) (omega arith)) in
    ap (λ x. sum_below x f) (sym (join j u h)) ∙ omega (arith, sum_add j (u - j) f, z)

pub sum_more : (j u : ℕ) (f : ℕ → ℕ) → j ≤ u → sum_below j f ≤ sum_below u f
sum_more j u f h = omega (arith, sum_add j (u - j) f, ap (λ x. sum_below x f) (join j u h))

pub sum_term : (n i : ℕ) (f : ℕ → ℕ) → i < n → f i ≤ sum_below n f
sum_term n i f h = omega (arith, sum_more (i + 1) n f (omega arith), sum_suc i f)

pub sum_plus : (n : ℕ) (f g : ℕ → ℕ) → sum_below n (λ k. f k + g k) ≡ sum_below n f + sum_below n g
unfolding sum_below
sum_plus zero f g = refl
sum_plus (suc n) f g = omega (arith, sum_plus n f g)

-- each term at most c
pub sum_const : (n c : ℕ) (f : ℕ → ℕ) → ((k : ℕ) → k < n → f k ≤ c) → sum_below n f ≤ n * c
unfolding sum_below
sum_const zero c f e = omega arith
sum_const (suc n) c f e = omega (arith, sum_const n c f (λ k h. e k (omega arith)), e n (omega arith), suc-mul n c)

-- a function that is 0 but at a
pub sum_only : (n a c : ℕ) (f : ℕ → ℕ) → f a ≤ c → ((k : ℕ) → (k ≢ a) → f k ≡ 0) → sum_below n f ≤ c
unfolding sum_below
sum_only zero a c f e z = omega arith
sum_only (suc n) a c f e z = elim (cases_eq n a) [
  | inl same ↦ omega (arith, ap f same, sum_none n f (λ k h. z k (λ eq. omega arith)))
  | inr apart ↦ omega (arith, sum_only n a c f e z, z n apart)
]

-- the order of two sums
pub sum_swap : (n k : ℕ) (f : ℕ → ℕ → ℕ) → sum_below n (λ u. sum_below k (f u)) ≡ sum_below k (λ i. sum_below n (λ u. f u i))
unfolding sum_below
sum_swap zero k f = sym (sum_none k (λ i. 0) (λ i h. refl))
sum_swap (suc n) k f = omega (arith, sum_swap n k f, sum_plus k (λ i. sum_below n (λ u. f u i)) (f n))

-- the one term that is not 0
pub sum_at : (n a x : ℕ) → a < n → sum_below n (λ k. cond (a == k) x 0) ≡ x
unfolding sum_below
sum_at zero a x h = omega arith
sum_at (suc n) a x h = elim (cases_eq a n) [
  | inl same ↦ omega (arith, cond-true (a == n) x 0 (eq-eqb a n same), sum_none n (λ k. cond (a == k) x 0) (λ k l. cond-false (a == k) x 0 (ne_eqb a k (λ e. omega arith))))
  | inr apart ↦ omega (arith, cond-false (a == n) x 0 (ne_eqb a n apart), sum_at n a x (omega arith))
]
