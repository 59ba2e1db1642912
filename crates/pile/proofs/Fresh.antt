-- A layer just made, seen from the board that it was laid on.
use Rattle.std.proofs.Common.{◌≡◌, ℕ, true, List, [], None, Ok, Err, Option, Result, refl, ap, ◌∙◌, subst, inl, inr, arith}
use Rattle.refusal.specs.declared.Part.TheVariants as part
use Rattle.refusal.specs.declared.Refusal.{Refusal}
use Rattle.refusal.specs.Table.{Passed, First, Refused}
use Rattle.board.specs.Shape.{Shape}
use Rattle.board.specs.declared.link.Link.{Link}
use Rattle.board.specs.declared.link.End.{End}
use Rattle.board.specs.declared.link.End.TheVariants.{Site, Drain}
use Rattle.layer.specs.declared.merge.Pair.{Pair}
use Rattle.board.specs.Grids.{grid_of, grid_checks}
use Rattle.layer.specs.Earths.{earthed, earth_checks, Earthing}
use Rattle.layer.specs.Merges.{merged, merge_checks, Merging}
use Rattle.layer.specs.Cuts.{all_on, cut_of, cut_by, lessened, standing, cut_checks, Cutting}
use Rattle.layer.specs.Cutting.{cut_none}
use Rattle.pile.specs.Piles.{cut_once, first_cut_checks, Piled, OnGrid}

pub fresh_earth : (x y : Shape) (o o1 : Option ℕ) (w : ℕ) (r : Result Unit Refusal) → x ≡ y → o ≡ None → Earthing x o o1 w r → Earthing y None o1 w r
fresh_earth x y o o1 w r p q h =
    let P : Shape → Type 0 = λ z. Earthing z o o1 w r in
    let Q : Option ℕ → Type 0 = λ z. Earthing y z o1 w r in
    subst Q q (subst P p h)

pub fresh_merge : (x y : Shape) (o o1 : Option Pair) (a b : ℕ) (r : Result Unit Refusal) → x ≡ y → o ≡ None → Merging x o o1 a b r → Merging y None o1 a b r
fresh_merge x y o o1 a b r p q h =
    let P : Shape → Type 0 = λ z. Merging z o o1 a b r in
    let Q : Option Pair → Type 0 = λ z. Merging y z o1 a b r in
    subst Q q (subst P p h)

pub fresh_cut : (x y : Shape) (xs ys : List Link) (a : ℕ) (b : End) (k : ℕ) (r : Result Unit Refusal) → x ≡ y → xs ≡ [] → Cutting x xs ys a b k r → Cutting y [] ys a b k r
fresh_cut x y xs ys a b k r p q h =
    let P : Shape → Type 0 = λ z. Cutting z xs ys a b k r in
    let Q : List Link → Type 0 = λ z. Cutting y z ys a b k r in
    subst Q q (subst P p h)

-- nothing is cut yet
all_stand : (x : Shape) (a : ℕ) (b : End) → standing (lessened x []) a b ≡ standing x a b
all_stand x a (Site y) = omega arith
all_stand x a Drain = omega arith

pub first_refused : (x : Shape) (a : ℕ) (b : End) (k : ℕ) (e : Refusal) → Refused (cut_checks x [] a b k) part.Cut e → Refused (first_cut_checks x a b k) part.Cut e
first_refused x a b k e h = record { by = go h.by; from = h.from } where
  go : First (cut_checks x [] a b k) e.row e.place → First (first_cut_checks x a b k) e.row e.place
  go (inl f) = inl f
  go (inr f) = inr (
    f.0,
    elim f.1 [
      | inl t ↦ inl t
      | inr t ↦ inr (
        t.0,
        elim t.1 [
          | inl u ↦ absurd (omega (arith, u.1.1))
          | inr u ↦ elim u.1 [
            | inl v ↦ inl (v.0, (v.1.0, omega (arith, all_stand x a b)))
            | inr v ↦ absurd v.1
          ]
        ],
      )
    ],
  )

pub first_passed : (x : Shape) (a : ℕ) (b : End) (k : ℕ) → Passed (cut_checks x [] a b k) → Passed (first_cut_checks x a b k)
first_passed x a b k h = (h.0, (h.1.0, ((λ p f. h.1.1.1.0 p (f.0, omega (arith, all_stand x a b))), tt)))

pub first_cut : (x : Shape) (ys : List Link) (a : ℕ) (b : End) (k : ℕ) → (all_on x.sites [] ≡ true → cut_of x ys ≡ cut_by (cut_of x []) (record { site = a; other = b; count = k })) → cut_of x ys ≡ cut_once x a b k
first_cut x ys a b k h = h refl ∙ ap (λ z. cut_by z (record { site = a; other = b; count = k })) (cut_none x)

-- the third of three layers: y is the merged board below it, z the earthed one below that
pub third : {C : Type 0} (x y z : Shape) (w : ℕ) (p : Pair) (l : Link) (k : ℕ) (shape : C → Shape) (r : Result C Refusal)
    → k ≡ l.count → z ≡ earthed w x → y ≡ merged p.a p.b z → Passed (earth_checks x None w) → Passed (merge_checks z None p.a p.b)
    → elim r as (λ t. Type 0) [
      | Ok e ↦ Passed (first_cut_checks y l.site l.other k) × (shape e ≡ cut_once y l.site l.other k)
      | Err e ↦ Refused (first_cut_checks y l.site l.other k) part.Cut e
    ]
    → Piled x w p l shape r
third x y z w p l k shape (Ok c) ek ez ey pe pm h =
    h.1 ∙ ap (cut_once y l.site l.other) ek ∙ ap (λ t. cut_by t l) (ey ∙ ap (merged p.a p.b) ez)
third x y z w p l k shape (Err e) ek ez ey pe pm h =
    let P : Shape → Type 0 = λ t. Passed (merge_checks t None p.a p.b) in
    let Q : Shape → Type 0 = λ t. Refused (first_cut_checks t l.site l.other l.count) part.Cut e in
    let K : ℕ → Type 0 = λ n. Refused (first_cut_checks y l.site l.other n) part.Cut e in
    inr (inr (pe, subst P ez pm, subst Q (ey ∙ ap (merged p.a p.b) ez) (subst K ek h)))

-- the pile, on a board that is known by another name
pub renamed : {C : Type 0} (x y : Shape) (w : ℕ) (p : Pair) (l : Link) (shape : C → Shape) (r : Result C Refusal) → x ≡ y → Piled x w p l shape r → Piled y w p l shape r
renamed x y w p l shape r e h = let P : Shape → Type 0 = λ t. Piled t w p l shape r in subst P e h

pub gridded : {C : Type 0} (rows columns w : ℕ) (p : Pair) (l : Link) (shape : C → Shape) (r : Result C Refusal) → Passed (grid_checks rows columns)
    → Piled (grid_of rows columns) w p l shape r → OnGrid rows columns w p l shape r
gridded rows columns w p l shape (Ok c) ok h = (ok, h)
gridded rows columns w p l shape (Err e) ok h = inr (ok, h)
