-- The worked results: the figures computed, and no refusal on the way.
use Rattle.std.proofs.Common.{◌≡◌, ℕ, ◌+◌, ◌<◌, ◌≤◌, None, refl, ap, ◌∙◌, subst, inl, inr, arith, length}
use Rattle.refusal.specs.declared.Part.TheVariants as part
use Rattle.refusal.specs.declared.Refusal.{Refusal}
use Rattle.refusal.specs.Table.{Refused}
use Rattle.board.specs.Shape.{Shape, deg, sum_below, all_links}
use Rattle.board.specs.Grids.{grid_of}
use Rattle.layer.specs.Earths.{earthed, earth_checks}
use Rattle.layer.specs.Merges.{merged, merge_checks}
use Rattle.board.specs.declared.link.End.{End}
use Rattle.board.specs.declared.link.End.TheVariants.{Site, Drain}
use Rattle.board.specs.declared.list.LinkList.{LinkList}
use Rattle.board.specs.Links.{Fit, Misfit, weight}
use Rattle.board.specs.Lists.{bare, linked}
use Rattle.board.specs.Adding.{shape_of, add_checks}
use Rattle.board.specs.Tables.{fit_quiet}
use Rattle.pile.specs.Worked.{MiddleEarthed, EndsMerged}

pub middle_earthed : MiddleEarthed
unfolding earthed grid_of deg sum_below
middle_earthed = refl

pub ends_merged : EndsMerged
unfolding merged grid_of deg sum_below
ends_merged = refl

three : (x : Shape) → x ≡ grid_of 1 3 → x.sites ≡ 3
unfolding grid_of
three x e = ap (λ (y : Shape). y.sites) e

pub earth_goes : (x : Shape) (e : Refusal) → x ≡ grid_of 1 3 → Refused (earth_checks x None 1) part.Earth e → ⊥
earth_goes x e is h = elim h.by [
  | inl f ↦ omega (arith, three x is, f.1.1)
  | inr f ↦ elim f.1 [
    | inl g ↦ elim g.1.1 [ inl s ↦ s refl | inr s ↦ omega (arith, three x is) ]
    | inr g ↦ g.1
  ]
]

pub merge_goes : (x : Shape) (e : Refusal) → x ≡ grid_of 1 3 → Refused (merge_checks x None 2 0) part.Merge e → ⊥
merge_goes x e is h = elim h.by [
  | inl f ↦ elim f.1 [
    | inl g ↦ omega (arith, three x is, g.0)
    | inr g ↦ elim g.2 [ inl s ↦ omega (arith, three x is) | inr s ↦ omega arith ]
  ]
  | inr f ↦ elim f.1 [
    | inl g ↦ g.1.1 refl
    | inr g ↦ g.1
  ]
]

pub is_grid : (r c : ℕ) → r ≡ 1 → c ≡ 3 → grid_of r c ≡ grid_of 1 3
is_grid r c p q = ap (λ x. grid_of x c) p ∙ ap (grid_of 1) q

-- a record that fits, on a list with room for it and for its links
pub add_goes : (x : LinkList) (b : Shape) (a : ℕ) (e : End) (k : ℕ) (r : Refusal) → shape_of x ≡ b → Fit b.sites a e → 1 ≤ k → all_links b + weight e k ≤ 500000 → length x.records.items < 4096
    → Refused (add_checks x a e k) part.Board r → ⊥
add_goes x b a e k r is fit one low room h = elim h.by [
  | inl f ↦ elim f.1.1 [ inl z ↦ omega arith | inr z ↦ omega (arith, ap all_links is) ]
  | inr f ↦ elim f.1 [
    | inl g ↦ (let P : ℕ → Type 0 = λ n. Misfit n a e r.place in fit_quiet b.sites a e fit r.place (subst P (ap (λ (y : Shape). y.sites) is) g.1))
    | inr g ↦ elim g.1 [
      | inl i ↦ omega (arith, i.1.1)
      | inr i ↦ i.1
    ]
  ]
]

-- the lists on the way to three sites in a row
abbrev pub row_0 : Shape
row_0 = bare 3

abbrev pub row_1 : Shape
row_1 = linked row_0 (record { site = 0; other = Site 1; count = 2 })

abbrev pub row_2 : Shape
row_2 = linked row_1 (record { site = 2; other = Site 1; count = 2 })

abbrev pub row_3 : Shape
row_3 = linked row_2 (record { site = 0; other = Drain; count = 1 })

pub sites_of : (row_0.sites ≡ 3) × (row_1.sites ≡ 3) × (row_2.sites ≡ 3) × (row_3.sites ≡ 3)
unfolding linked
sites_of = (refl, refl, refl, refl)

pub all_of : (all_links row_0 ≡ 0) × (all_links row_1 ≡ 4) × (all_links row_2 ≡ 8) × (all_links row_3 ≡ 9)
unfolding linked sum_below
all_of = (refl, refl, refl, refl)
