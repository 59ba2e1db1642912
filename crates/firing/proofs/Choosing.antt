-- Choosing a site: where a property holds, where a value is largest, the first of several.
use Rattle.std.proofs.Common.{◌≡◌, ℕ, zero, suc, ◌<◌, ◌≤◌, Bool, true, false, cond, ◌⊎◌, refl, subst, inl, inr, arith}
use native.Mathlib.Decide.{ℕ_discrete, dec_le}
use Rattle.std.proofs.lemmas.Bool.{both_ways}

-- a decided property holds somewhere below n, or nowhere
pub somewhere : (P : ℕ → Type 0) → ((v : ℕ) → Dec (P v)) → (n : ℕ) → ((v : ℕ) × (v < n) × P v) ⊎ ((v : ℕ) → v < n → ¬ P v)
somewhere P dec zero = inr (λ v l p. omega arith)
somewhere P dec (suc n) = go (somewhere P dec n) (dec n)
  where
    go : ((v : ℕ) × (v < n) × P v) ⊎ ((v : ℕ) → v < n → ¬ P v) → Dec (P n) → ((v : ℕ) × (v < suc n) × P v) ⊎ ((v : ℕ) → v < suc n → ¬ P v)
    go (inl (v, l, p)) d = inl (v, omega arith, p)
    go (inr never) (yes p) = inl (n, omega arith, p)
    go (inr never) (no q) = inr (λ v l p. elim (ℕ_discrete v n) [ yes e ↦ q (subst P e p) | no ne ↦ never v (omega arith) p ])

-- a site with the largest value
pub largest : (n : ℕ) (f : ℕ → ℕ) → 0 < n → (v : ℕ) × (v < n) × ((u : ℕ) → u < n → f u ≤ f v)
largest zero f l = absurd (omega arith)
largest (suc zero) f l = (0, omega arith, λ u l'. let e : u ≡ 0 = omega arith in rw e (omega arith))
largest (suc (suc n)) f l = pick (largest (suc n) f (omega arith))
  where
    pick : (v : ℕ) × (v < suc n) × ((u : ℕ) → u < suc n → f u ≤ f v) → (v : ℕ) × (v < suc (suc n)) × ((u : ℕ) → u < suc (suc n) → f u ≤ f v)
    pick (v, lv, best) =
        elim (dec_le (f (suc n)) (f v)) [
          | yes le ↦ (v, omega arith, λ u l'. elim (ℕ_discrete u (suc n)) [ yes e ↦ rw e le | no q ↦ best u (omega arith) ])
          | no gt ↦ (suc n, omega arith, λ u l'. elim (ℕ_discrete u (suc n)) [ yes e ↦ rw e (omega arith) | no q ↦ omega (arith, best u (omega arith)) ])
        ]

-- the first k below n at which P holds, or else n
abbrev pub first : (ℕ → Bool) → ℕ → ℕ
first P zero = 0
first P (suc n) = cond (P 0) 0 (suc (first (λ k. P (suc k)) n))

first_holds_step : (P : ℕ → Bool) (d : ℕ) (s : Bool) → P 0 ≡ s → P (suc d) ≡ true → P (cond s 0 (suc d)) ≡ true
first_holds_step P d true e p = e
first_holds_step P d false e p = p

pub first_holds : (n : ℕ) (P : ℕ → Bool) → P n ≡ true → P (first P n) ≡ true
first_holds zero P p = p
first_holds (suc n) P p = first_holds_step P (first (λ k. P (suc k)) n) (P 0) refl (first_holds n (λ k. P (suc k)) p)

first_least_step : (P : ℕ → Bool) (d : ℕ) (s : Bool) → P 0 ≡ s → ((j : ℕ) → P (suc j) ≡ true → d ≤ j) → (k : ℕ) → P k ≡ true → cond s 0 (suc d) ≤ k
first_least_step P d true e ih k p = omega arith
first_least_step P d false e ih zero p = absurd (both_ways (P 0) e p)
first_least_step P d false e ih (suc j) p = omega (arith, ih j p)

pub first_least : (n : ℕ) (P : ℕ → Bool) (k : ℕ) → P k ≡ true → first P n ≤ k
first_least zero P k p = omega arith
first_least (suc n) P k p = first_least_step P (first (λ j. P (suc j)) n) (P 0) refl (first_least n (λ j. P (suc j))) k p

first_below_step : (s : Bool) (d n : ℕ) → d ≤ n → cond s 0 (suc d) ≤ suc n
first_below_step true d n l = omega arith
first_below_step false d n l = omega arith

pub first_below : (n : ℕ) (P : ℕ → Bool) → first P n ≤ n
first_below zero P = omega arith
first_below (suc n) P = first_below_step (P 0) (first (λ k. P (suc k)) n) n (first_below n (λ k. P (suc k)))
