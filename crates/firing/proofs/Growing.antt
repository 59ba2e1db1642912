-- Sets of numbers below n that grow, each by a rule from the last: after n turns they stay.
use Rattle.std.proofs.Common.{◌≡◌, ℕ, zero, suc, ◌+◌, ◌<◌, ◌≤◌, Bool, true, false, cond, ◌⊎◌, sym, refl, ◌∙◌, subst, inl, inr, add-zero, add-suc, arith}
use Rattle.std.proofs.lemmas.Bool.{true≢false}
use Rattle.board.specs.Shape.{sum_below}
use Rattle.board.specs.Sums.{sum_const}
use Rattle.firing.proofs.Sums.{sum_jump}
use Rattle.firing.proofs.Choosing.{somewhere}
use Rattle.firing.proofs.Sets.{cond_le}

new_dec : (s t : Bool) → Dec ((s ≡ true) × (t ≡ false))
new_dec true true = no (λ p. true≢false p.1)
new_dec true false = yes (refl, refl)
new_dec false t = no (λ p. true≢false (sym p.0))

same_bool : (s t : Bool) → (t ≡ true → s ≡ true) → ¬ ((s ≡ true) × (t ≡ false)) → s ≡ t
same_bool true true p q = refl
same_bool true false p q = absurd (q (refl, refl))
same_bool false true p q = p refl
same_bool false false p q = refl

fresh : (s t : Bool) → s ≡ true → t ≡ false → cond t 1 0 + 1 ≤ cond s 1 0
fresh s t p q = rw (p, q) (omega arith)

cond_one : (s : Bool) → cond s 1 0 ≤ 1
cond_one true = omega arith
cond_one false = omega arith

module _ (n : ℕ) (G : ℕ → ℕ → Bool) (grow : (k v : ℕ) → v < n → G k v ≡ true → G (suc k) v ≡ true)
    (carry : (k : ℕ) → ((v : ℕ) → v < n → G (suc k) v ≡ G k v) → (v : ℕ) → v < n → G (suc (suc k)) v ≡ G (suc k) v) where
  held : ℕ → ℕ
  held k = sum_below n (λ v. cond (G k v) 1 0)

  same_or_more : (k : ℕ) → ((v : ℕ) → v < n → G (suc k) v ≡ G k v) ⊎ (held k + 1 ≤ held (suc k))
  unfolding held
  same_or_more k =
      elim (somewhere (λ v. (G (suc k) v ≡ true) × (G k v ≡ false)) (λ v. new_dec (G (suc k) v) (G k v)) n) [
        | inl f ↦
            inr (sum_jump n (λ v. cond (G k v) 1 0) (λ v. cond (G (suc k) v) 1 0) f.0 1 f.1
            (fresh (G (suc k) f.0) (G k f.0) f.2.0 f.2.1) (λ u l. cond_le (G k u) (G (suc k) u) 1 (grow k u l)))
        | inr never ↦ inl (λ v l. same_bool (G (suc k) v) (G k v) (grow k v l) (never v l))
      ]

  same_or_many : (k : ℕ) → ((v : ℕ) → v < n → G (suc k) v ≡ G k v) ⊎ (k + 1 ≤ held (suc k))
  same_or_many zero = elim (same_or_more 0) [ inl same ↦ inl same | inr more ↦ inr (omega arith) ]
  same_or_many (suc k) =
      elim (same_or_many k) [
        | inl same ↦ inl (carry k same)
        | inr many ↦ elim (same_or_more (suc k)) [ inl same ↦ inl same | inr more ↦ inr (omega arith) ]
      ]

  pub stays : (v : ℕ) → v < n → G (suc n) v ≡ G n v
  unfolding held
  stays v l =
      elim (same_or_many n) [
        | inl same ↦ same v l
        | inr many ↦ absurd (omega (arith, sum_const n 1 (λ v. cond (G (suc n) v) 1 0) (λ u l'. cond_one (G (suc n) u))))
      ]

  stays_on : (j : ℕ) (v : ℕ) → v < n → G (suc (n + j)) v ≡ G (n + j) v
  stays_on zero v l = rw add-zero (stays v l)
  stays_on (suc j) v l = rw add-suc (carry (n + j) (stays_on j) v l)

  pub stays_after : (j v : ℕ) → v < n → G (n + j) v ≡ G n v
  stays_after zero v l = rw add-zero
  stays_after (suc j) v l = rw add-suc (stays_on j v l ∙ stays_after j v l)

  pub grows : (k j v : ℕ) → v < n → G k v ≡ true → G (k + j) v ≡ true
  grows k zero v l p = rw add-zero p
  grows k (suc j) v l p = rw add-suc (grow (k + j) v l (grows k j v l p))

  -- what is ever in, is in after n turns
  pub in_time : (k v : ℕ) → v < n → G k v ≡ true → G n v ≡ true
  in_time k v l p = sym (stays_after k v l) ∙ subst (λ x. G x v ≡ true) (let e : k + n ≡ n + k = omega arith in e) (grows k n v l p)
