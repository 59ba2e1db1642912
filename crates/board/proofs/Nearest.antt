-- The least far end of a list of links.
use Rattle.std.proofs.Common.{◌≡◌, ℕ, suc, ◌+◌, ◌≤◌, ◌≢◌, Bool, true, false, cond, nat_le, eqb, List, [], ◌∷◌, length, min, sum_by, filter, Some, None, Option, refl, ◌∙◌, ap, inl, inr, arith}
use Rattle.std.specs.List.{filter_map, reduce, fold}
use Rattle.std.proofs.lemmas.Bool.{cases_lt, leb-true, leb-false, cond-true, cond-false, eq-eqb, ne_eqb}
use Rattle.std.proofs.lemmas.List.Sums.{sum_by-cons}
use Rattle.board.specs.Shape.{LeastFrom}
use Rattle.board.specs.declared.link.Link.{Link}
use Rattle.board.specs.Links.{between, far, Fit, FitsAll}
use Rattle.board.specs.Tables.{fits_true, between_far}

-- the lesser of x and what there may be
abbrev lesser : ℕ → Option ℕ → ℕ
lesser x None = x
lesser x (Some y) = min x y

fold_min : (x y : ℕ) (ys : List ℕ) → fold min (min x y) ys ≡ min x (fold min y ys)
fold_min x y [] = refl
fold_min x y (z ∷ ys) = let regroup : min (min x y) z ≡ min x (min y z) = grind arith in ap (λ a. fold min a ys) regroup ∙ fold_min x (min y z) ys

fold_lesser : (x : ℕ) (ys : List ℕ) → fold min x ys ≡ lesser x (reduce min ys)
fold_lesser x [] = refl
fold_lesser x (y ∷ ys) = fold_min x y ys

-- functions that agree from j on
pub same_from : (f g : ℕ → ℕ) (j : ℕ) → ((k : ℕ) → j ≤ k → f k ≡ g k) → (r : Option ℕ) → LeastFrom g j r → LeastFrom f j r
same_from f g j e None none = λ k h. e k h ∙ none k h
same_from f g j e (Some x) least = record {
  from = least.from;
  linked = omega (arith, e x least.from, least.linked);
  before = λ k h less. e k h ∙ least.before k h less;
}

-- c more at w
module _ (f g : ℕ → ℕ) (j w c : ℕ) (one : 1 ≤ c) (from : j ≤ w) (e : (k : ℕ) → f k ≡ cond (eqb w k) c 0 + g k) where
  here : c ≤ f w
  here = omega (arith, e w, cond-true (eqb w w) c 0 (eq-eqb w w refl))

  apart : (k : ℕ) → w ≢ k → f k ≡ g k
  apart k ne = omega (arith, e k, cond-false (eqb w k) c 0 (ne_eqb w k ne))

  with_one : (r : Option ℕ) → LeastFrom g j r → LeastFrom f j (Some (lesser w r))
  with_one None none = record {
    from = from;
    linked = omega (arith, here);
    before = λ k h less. apart k (λ p. omega arith) ∙ none k h;
  }
  with_one (Some x) least = elim (cases_lt x w) [
    | inl l ↦ (let at : min w x ≡ x = grind arith in rw at (record {
      from = least.from;
      linked = omega (arith, e x, least.linked);
      before = λ k h less. apart k (λ p. omega arith) ∙ least.before k h less;
    }))
    | inr l ↦ (let at : min w x ≡ w = grind arith in rw at (record {
      from = from;
      linked = omega (arith, here);
      before = λ k h less. apart k (λ p. omega arith) ∙ least.before k h (omega arith);
    }))
  ]

module _ (v j : ℕ) where
  -- the links of v to each site
  abbrev linked : List Link → ℕ → ℕ
  linked xs k = sum_by (λ l. between l v k) xs

  -- the far ends from v that are from j on
  abbrev ends : List Link → List ℕ
  ends xs = filter (λ u. nat_le j u) (filter_map (λ l. far l.site l.other v) xs)

  abbrev pub nearest : List Link → Option ℕ
  nearest xs = reduce min (ends xs)

  module _ (n : ℕ) (l : Link) (xs : List Link) (fit : Fit n l.site l.other) (one : 1 ≤ l.count) (rest : LeastFrom (linked xs) j (nearest xs)) where
    grown : (o : Option ℕ) → far l.site l.other v ≡ o → (k : ℕ) → linked (l ∷ xs) k ≡ elim o [ Some w ↦ cond (eqb w k) l.count 0 | None ↦ 0 ] + linked xs k
    grown o e k =
        sum_by-cons (λ (x : Link). between x v k) l xs
        ∙ ap (λ y. y + linked xs k) (between_far n l fit v k ∙ ap {B = ℕ} (λ (p : Option ℕ). elim p [ Some w ↦ cond (eqb w k) l.count 0 | None ↦ 0 ]) e)

    one_more : (o : Option ℕ) → far l.site l.other v ≡ o → LeastFrom (linked (l ∷ xs)) j (nearest (l ∷ xs))
    one_more None e = rw e (same_from (linked (l ∷ xs)) (linked xs) j (λ k h. omega (arith, grown None e k)) (nearest xs) rest)
    one_more (Some w) e = go (nat_le j w) refl where
      go : (t : Bool) → nat_le j w ≡ t → LeastFrom (linked (l ∷ xs)) j (nearest (l ∷ xs))
      go true t = rw (e, t, fold_lesser w (ends xs)) (with_one (linked (l ∷ xs)) (linked xs) j w l.count one (leb-true j w t) (grown (Some w) e) (nearest xs) rest)
      go false t = rw (e, t) (same_from (linked (l ∷ xs)) (linked xs) j (λ k h. omega (arith, grown (Some w) e k, cond-false (eqb w k) l.count 0 (ne_eqb w k (λ p. omega (arith, leb-false j w t))))) (nearest xs) rest)

  pub nearest_least : (n : ℕ) (xs : List Link) → FitsAll xs (length xs) n → LeastFrom (linked xs) j (nearest xs)
  nearest_least n [] fit = λ k h. refl
  nearest_least n (l ∷ xs) fit =
      let here = fit 0 (omega arith) in
      one_more n l xs (fits_true n l.site l.other here.0) here.1 (nearest_least n xs (λ i less. fit (suc i) (omega arith))) (far l.site l.other v) refl
