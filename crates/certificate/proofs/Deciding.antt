-- A certificate has one verdict.
use Rattle.std.proofs.Common.{◌≡◌, ℕ, List, Ok, Err, sym, refl, ap, ◌∙◌, inl, inr}
use Rattle.std.proofs.lemmas.Bool.{cases_order}
use Rattle.refusal.specs.declared.Refusal.{Refusal}
use Rattle.refusal.proofs.Answers.{not_both, one_answer, Single}
use Rattle.board.specs.Shape.{Shape}
use Rattle.firing.specs.Firing.{Lowest}
use Rattle.firing.specs.Certificates.{TakenBackAt}
use Rattle.certificate.specs.Verdicts.{OneVerdict, certificate_checks}

lowest_once : (b : Shape) (P : ℕ → Type 0) (p q : ℕ) → Lowest b P p → Lowest b P q → p ≡ q
lowest_once b P p q one two = elim (cases_order p q) [
  | inl same ↦ same
  | inr (inl less) ↦ absurd (two.before p less one.holds)
  | inr (inr more) ↦ absurd (one.before q more two.holds)
]

-- two largest sets have the same sites
back_once : (b : Shape) (w h : ℕ → ℕ) (p q : ℕ) → TakenBackAt b w h p → TakenBackAt b w h q → p ≡ q
back_once b w h p q (S, large, low) (S', large', low') = elim (cases_order p q) [
  | inl same ↦ same
  | inr (inl less) ↦ absurd (low'.before p less (large'.holds S large.back p low.on low.holds))
  | inr (inr more) ↦ absurd (low.before q more (large.holds S' large'.back q low'.on low'.holds))
]

single : (b : Shape) (c w h : List ℕ) (slots bytes : ℕ) → Single (certificate_checks b c w h slots bytes)
single b c w h slots bytes = (
  λ p q x y. x.0 ∙ sym y.0,
  (
    λ p q x y. x.0 ∙ sym y.0,
    (λ p q x y. lowest_once b _ p q x y, (λ p q x y. lowest_once b _ p q x y, (λ p q x y. lowest_once b _ p q x y, (λ p q x y. back_once b _ _ p q x y, tt)))),
  ),
)

same_refusal : (e e' : Refusal) → e.row ≡ e'.row → e.place ≡ e'.place → e.part ≡ e'.part → e ≡ e'
same_refusal e e' r p q =
    ap (λ x. record { row = x; place = e.place; part = e.part }) r
    ∙ ap (λ x. record { row = e'.row; place = x; part = e.part }) p
    ∙ ap (λ x. record { row = e'.row; place = e'.place; part = x }) q

pub one_verdict : OneVerdict
one_verdict b c w h slots bytes (Ok _) (Ok _) one two = refl
one_verdict b c w h slots bytes (Ok _) (Err e) one two = absurd (not_both (certificate_checks b c w h slots bytes) e.row e.place two.by one.0)
one_verdict b c w h slots bytes (Err e) (Ok _) one two = absurd (not_both (certificate_checks b c w h slots bytes) e.row e.place one.by two.0)
one_verdict b c w h slots bytes (Err e) (Err e') one two =
    let same = one_answer (certificate_checks b c w h slots bytes) e.row e'.row e.place e'.place (single b c w h slots bytes) one.by two.by in
    ap Err (same_refusal e e' same.0 same.1 (one.from ∙ sym two.from))
