-- Piles of layers: what they mean, and when they refuse.
use Rattle.std.specs.Prelude.{◌≡◌, ℕ, ◌<◌, ◌⊎◌, List, [], ◌∷◌, None, Ok, Err, Result}
use Rattle.refusal.specs.declared.Row.TheVariants as row
use Rattle.refusal.specs.declared.Part.TheVariants as part
use Rattle.refusal.specs.declared.Refusal.{Refusal}
use Rattle.refusal.specs.Table.{Check, Passed, Refused}
use Rattle.board.specs.Shape.{Shape}
use Rattle.board.specs.declared.link.End.{End}
use Rattle.board.specs.declared.link.Link.{Link}
use Rattle.layer.specs.declared.merge.Pair.{Pair}
use Rattle.board.specs.Links.{Misfit}
use Rattle.layer.specs.Earths.{earthed, earth_checks}
use Rattle.layer.specs.Merges.{merged, merge_checks}
use Rattle.board.specs.declared.link.End.TheVariants.{Site, Drain}
use Rattle.layer.specs.Cuts.{cut_by, standing}
use Rattle.board.specs.Grids.{grid_of, grid_checks}
use Rattle.board.specs.Lists.{bare, linked}

-- k links of a and b taken away
abbrev pub cut_once : Shape → ℕ → End → ℕ → Shape
cut_once x a b k = cut_by x (record { site = a; other = b; count = k })

-- the first cut of a layer: it takes a link at least, its sites are on the board and apart, and so many links stand
abbrev pub first_cut_checks : Shape → ℕ → End → ℕ → List Check
first_cut_checks x a b k =
    record { row = row.Limit; when = λ p. (p ≡ 0) × (k < 1) }
    ∷ record { row = row.Site; when = λ p. Misfit x.sites a b p }
    ∷ record { row = row.FewLinks; when = λ p. (p ≡ 0) × (standing x a b < k) }
    ∷ []

-- earth, merge and cut laid on x: all three take effect, or the first that refuses does so
abbrev pub Piled : {C : Type 0} → Shape → ℕ → Pair → Link → (C → Shape) → Result C Refusal → Type 0
Piled x w p l shape (Ok c) = shape c ≡ cut_by (merged p.a p.b (earthed w x)) l
Piled x w p l shape (Err e) =
    Refused (earth_checks x None w) part.Earth e
    ⊎ ((Passed (earth_checks x None w) × Refused (merge_checks (earthed w x) None p.a p.b) part.Merge e)
    ⊎ (Passed (earth_checks x None w) × Passed (merge_checks (earthed w x) None p.a p.b)
    × Refused (first_cut_checks (merged p.a p.b (earthed w x)) l.site l.other l.count) part.Cut e))

-- the same on a grid, which may refuse first
abbrev pub OnGrid : {C : Type 0} → ℕ → ℕ → ℕ → Pair → Link → (C → Shape) → Result C Refusal → Type 0
OnGrid rows columns w p l shape (Ok c) = Passed (grid_checks rows columns) × Piled (grid_of rows columns) w p l shape (Ok c)
OnGrid rows columns w p l shape (Err e) =
    Refused (grid_checks rows columns) part.Board e ⊎ (Passed (grid_checks rows columns) × Piled (grid_of rows columns) w p l shape (Err e))

-- three sites in a row, two links to each neighbour and one from each end to the drain
abbrev pub row_of_three : Shape
row_of_three =
    linked (linked (linked (linked (bare 3)
    (record { site = 0; other = Site 1; count = 2 })) (record { site = 2; other = Site 1; count = 2 }))
    (record { site = 0; other = Drain; count = 1 })) (record { site = 2; other = Drain; count = 1 })
