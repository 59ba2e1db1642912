-- A line's first word: the letter alone, or the letter and a space.
use Rattle.std.proofs.Common.{◌≡◌, ℕ, zero, suc, ◌≤◌, cond, eqb, ◌⊎◌, List, [], ◌∷◌, length, get_or, drop, Some, None, Ok, Err, Option, Result, sym, refl, ap, ◌∙◌, inl, inr, arith}
use Rattle.std.proofs.lemmas.Bool.{cases_eq}
use Rattle.sheet.specs.declared.Kind.{Kind}
use Rattle.sheet.specs.declared.Kind.TheVariants.{Grid, Sites, Link, Earth, Merge, Cut, Height, Ceiling, Drop, Fire, Run, Wave, Close, Shelve, Resume}
use Rattle.sheet.specs.Parts.{parts, fronted}
use Rattle.sheet.specs.declared.UnknownLetter.{UnknownLetter}
use Rattle.sheet.specs.Form.{NoLetter}
use Rattle.sheet.specs.Letters.{letter, Head, Known}
use Rattle.std.specs.Result.{result_ok}
use Rattle.sheet.proofs.Cuts.{Free, parts_stop, parts_other, parts_cut, parts_last, parts_some, single_is}

-- the letter of a byte
known : ℕ → Option Kind
known c =
    cond (eqb c 103) (Some Grid) (
    cond (eqb c 110) (Some Sites) (
    cond (eqb c 108) (Some Link) (
    cond (eqb c 101) (Some Earth) (
    cond (eqb c 109) (Some Merge) (
    cond (eqb c 99) (Some Cut) (
    cond (eqb c 104) (Some Height) (
    cond (eqb c 107) (Some Ceiling) (
    cond (eqb c 100) (Some Drop) (
    cond (eqb c 102) (Some Fire) (
    cond (eqb c 114) (Some Run) (
    cond (eqb c 119) (Some Wave) (
    cond (eqb c 115) (Some Close) (
    cond (eqb c 112) (Some Shelve) (
    cond (eqb c 117) (Some Resume) (None)))))))))))))))

known_letter : (k : Kind) → known (letter k) ≡ Some k
unfolding known
known_letter Grid = refl
known_letter Sites = refl
known_letter Link = refl
known_letter Earth = refl
known_letter Merge = refl
known_letter Cut = refl
known_letter Height = refl
known_letter Ceiling = refl
known_letter Drop = refl
known_letter Fire = refl
known_letter Run = refl
known_letter Wave = refl
known_letter Close = refl
known_letter Shelve = refl
known_letter Resume = refl

letter_no_space : (k : Kind) → letter k ≡ 32 → ⊥
unfolding known
letter_no_space k e = let same = sym (known_letter k) ∙ ap known e in cc

letter_free : (k : Kind) → Free 32 (letter k ∷ [])
letter_free k zero h e = letter_no_space k e
letter_free k (suc i) h e = absurd (omega arith)

pub head_alone : (l : List ℕ) (k : Kind) → length l ≡ 1 → letter k ≡ get_or l 0 0 → Head l k []
head_alone l k one is = ap (parts 32) (single_is l (letter k) one (sym is)) ∙ parts_last 32 (letter k ∷ []) (letter_free k)

pub head_spaced : (l : List ℕ) (k : Kind) → 2 ≤ length l → letter k ≡ get_or l 0 0 → get_or l 1 0 ≡ 32 → Head l k (parts 32 (drop 2 l))
head_spaced [] k two is space = absurd (omega arith)
head_spaced (a ∷ []) k two is space = absurd (omega arith)
head_spaced (a ∷ b ∷ r) k two is space =
    ap (λ x. parts 32 (x ∷ b ∷ r)) (sym is) ∙ ap (λ y. parts 32 (letter k ∷ y ∷ r)) space ∙ parts_cut 32 (letter k ∷ []) r (letter_free k)

-- what a line with a letter as its first word looks like
pub record Lettered (l : List ℕ) (k : Kind) : Type 0 where
  pub first : letter k ≡ get_or l 0 0
  pub then : (length l ≡ 1) ⊎ ((2 ≤ length l) × (get_or l 1 0 ≡ 32))

stopped : (a : ℕ) (r : List ℕ) (k : Kind) (ws : List (List ℕ)) → a ≡ 32 → Head (a ∷ r) k ws → ⊥
stopped a r k ws e h =
    let first = sym (ap (λ x. parts 32 (x ∷ r)) e ∙ parts_stop 32 r) ∙ h in
    let z : ◌≡◌ {A = ℕ} 0 1 = cc in omega arith

pub head_inverse : (l : List ℕ) (k : Kind) (ws : List (List ℕ)) → Head l k ws → Lettered l k
unfolding parts fronted
head_inverse [] k ws h = let z : ◌≡◌ {A = ℕ} 0 1 = cc in absurd (omega arith)
head_inverse (a ∷ []) k ws h =
    elim (cases_eq a 32) [
      | inl e ↦ absurd (stopped a [] k ws e h)
      | inr ne ↦ let first = sym (parts_other 32 a [] ne) ∙ h in record { first = sym (cc); then = inl refl }
    ]
head_inverse (a ∷ b ∷ r) k ws h =
    elim (cases_eq a 32) [
      | inl e ↦ absurd (stopped a (b ∷ r) k ws e h)
      | inr ne ↦ elim (cases_eq b 32) [
        | inl f ↦
            let first = sym (parts_other 32 a (b ∷ r) ne ∙ ap (λ y. fronted a (parts 32 (y ∷ r))) f ∙ ap (fronted a) (parts_stop 32 r)) ∙ h in
            record { first = sym (cc); then = inr (omega arith, f) }
        | inr nf ↦
            let some = parts_some 32 r in
            let first = sym (parts_other 32 a (b ∷ r) ne ∙ ap (fronted a) (parts_other 32 b r nf ∙ ap (fronted b) some.2)) ∙ h in
            let z : ◌≡◌ {A = ℕ} 0 1 = cc in absurd (omega arith)
      ]
    ]

-- a line whose first byte is no letter
pub known_none : {p : Option Kind} (l : List ℕ) (c : ℕ) (r : Result Kind UnknownLetter) → Known c r → result_ok r ≡ None → c ≡ get_or l 0 0 → NoLetter p l
known_none l c (Ok k) is none here = absurd (cc)
known_none l c (Err e) is none here = record { none = λ k ws h may. is.1 k ((head_inverse l k ws h).first ∙ sym here) }

pub known_some : (c : ℕ) (k : Kind) (r : Result Kind UnknownLetter) → Known c r → result_ok r ≡ Some k → letter k ≡ c
known_some c k (Ok j) is some = let same : j ≡ k = cc in ap letter (sym same) ∙ is
known_some c k (Err e) is some = absurd (cc)

letter_one : (j k : Kind) → letter j ≡ letter k → j ≡ k
letter_one j k e = let same = sym (known_letter j) ∙ ap known e ∙ known_letter k in cc

-- a line has one letter, and one list of words behind it
pub head_one : (l : List ℕ) (j k : Kind) (vs ws : List (List ℕ)) → Head l j vs → Head l k ws → (j ≡ k) × (vs ≡ ws)
head_one l j k vs ws g h =
    let same = sym g ∙ h in
    let first : letter j ≡ letter k = cc in
    (letter_one j k first, cc)
