-- The sum of a list, and a count over two lists, as sums over the sites.
use Rattle.std.proofs.Common.{◌≡◌, ℕ, zero, suc, ◌+◌, ◌-◌, ◌≤◌, cond, ltb, List, length, get_or, take, replicate, sum, sum_by, count_by, vec_items, refl, sym, ap, ◌∙◌, add-one, inl, inr, arith, take_all, le-ltb, lt-ltb}
use Rattle.std.specs.List.{zip}
use Rattle.std.proofs.lemmas.List.{get_or-replicate, get_or_past, length-replicate}
use Rattle.std.proofs.lemmas.List.Sums.{sum_by_more}
use Rattle.std.proofs.lemmas.Slice.Zip.{get_or-zip, length-zip}
use Rattle.std.proofs.lemmas.Bool.{cases_lt, cond-true, cond-false}
use Rattle.board.specs.Shape.{sum_below}
use Rattle.board.specs.Sums.{sum_same, sum_up, sum_plus}
use Rattle.firing.specs.Firing.{at}
use Rattle.bench.specs.declared.Bench.{Bench}
use Rattle.bench.specs.States.{state, since}

first_terms : {X : Type 0} (f : X → ℕ) (xs : List X) (d : X) (i : ℕ) → i ≤ length xs → sum_by f (take i xs) ≡ sum_below i (λ v. f (get_or xs v d))
unfolding sum_below
first_terms f xs d zero h = refl
first_terms f xs d (suc i) h = omega (arith, first_terms f xs d i (omega arith), sum_by_more f xs i d (omega arith), ap (λ k. sum_by f (take k xs)) (add-one i))

all_terms : {X : Type 0} (f : X → ℕ) (xs : List X) (d : X) → sum_by f xs ≡ sum_below (length xs) (λ v. f (get_or xs v d))
all_terms f xs d = ap (sum_by f) (sym (take_all (length xs) xs (omega arith))) ∙ first_terms f xs d (length xs) (omega arith)

pub sum_is : (xs : List ℕ) → sum xs ≡ sum_below (length xs) (at xs)
sum_is xs = all_terms (λ x. x) xs 0

-- the places at which one list is above another
pub above_is : (cs os : List ℕ) → length os ≡ length cs → count_by (λ p. ltb p.1 p.0) (zip cs os) ≡ sum_below (length cs) (λ v. cond (ltb 0 (at cs v - at os v)) 1 0)
above_is cs os e =
    let size : length (zip cs os) ≡ length cs = omega (arith, length-zip cs os) in
    all_terms (λ p. cond (ltb p.1 p.0) 1 0) (zip cs os) (0, 0)
    ∙ ap (λ n. sum_below n (λ v. cond (ltb (get_or (zip cs os) v (0, 0)).1 (get_or (zip cs os) v (0, 0)).0) 1 0)) size
    ∙ sum_same (length cs) _ _ (λ v l. ap (λ p. cond (ltb p.1 p.0) 1 0) (get_or-zip cs os v (0, 0) l (omega arith)) ∙ same (at cs v) (at os v))
  where
    same : (a b : ℕ) → ◌≡◌ {A = ℕ} (cond (ltb b a) 1 0) (cond (ltb 0 (a - b)) 1 0)
    same a b = elim (cases_lt b a) [
      | inl l ↦ cond-true (ltb b a) 1 0 (lt-ltb b a l) ∙ sym (cond-true (ltb 0 (a - b)) 1 0 (lt-ltb 0 (a - b) (omega arith)))
      | inr l ↦ cond-false (ltb b a) 1 0 (le-ltb b a l) ∙ sym (cond-false (ltb 0 (a - b)) 1 0 (le-ltb 0 (a - b) (omega arith)))
    ]

-- the counts at the opening are all firings, less those since
module _ (b : Bench) where
  opened_sum : sum (vec_items b.opened) ≡ sum_below b.heights.len (at (vec_items b.opened))
  opened_sum = sum_is (vec_items b.opened) ∙ ap (λ n. sum_below n (at (vec_items b.opened))) (omega (arith, b.opened.ok.0, b.opened_sized))

  pub opened_few : sum (vec_items b.opened) ≤ b.fired
  opened_few = omega (arith, opened_sum, sum_up b.heights.len (at (vec_items b.opened)) (at (vec_items b.counts)) (λ v l. b.grown v), b.counted)

  pub since_sum : b.fired - sum (vec_items b.opened) ≡ sum_below (length (vec_items b.heights)) (since (state b))
  since_sum =
      omega (
        arith,
        opened_sum,
        b.counted,
        sum_plus b.heights.len (since (state b)) (at (vec_items b.opened)),
        sum_same b.heights.len (at (vec_items b.counts)) (λ v. since (state b) v + at (vec_items b.opened) v) (λ v l. omega (arith, b.grown v)),
        ap (λ n. sum_below n (since (state b))) b.heights.ok.0,
      )

pub zeros : (n : ℕ) (xs : List ℕ) → xs ≡ replicate n 0 → (u : ℕ) → at xs u ≡ 0
zeros n xs e u = elim (cases_lt u n) [
  | inl l ↦ ap (λ ys. at ys u) e ∙ get_or-replicate n u 0 0 l
  | inr l ↦ get_or_past xs u 0 (omega (arith, ap length e, length-replicate {A = ℕ} n 0))
]
