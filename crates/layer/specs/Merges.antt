-- Merge: what the layer makes of the board below.
use Rattle.std.specs.Prelude.{◌≡◌, ℕ, ◌+◌, ◌-◌, ◌<◌, cond, not, ◌&&◌, List, [], ◌∷◌, Some, None, Ok, Err, Option, Result, ◌==◌, ◌≢◌, nat_lt}
use Rattle.refusal.specs.declared.Row.TheVariants as row
use Rattle.refusal.specs.declared.Part.TheVariants as part
use Rattle.refusal.specs.declared.Refusal.{Refusal}
use Rattle.refusal.specs.Table.{Check, Passed, Refused}
use Rattle.board.specs.Shape.{Shape}
use Rattle.board.specs.declared.link.End.TheVariants.{Site}
use Rattle.layer.specs.declared.merge.Pair.{Pair}
use Rattle.board.specs.Links.{Misfit}
use Rattle.layer.specs.Layers.{up, Set}

-- the links of p and q once those of a are b's too: none of a site to itself, so none between a and b
abbrev pub joined_m : ℕ → ℕ → Shape → ℕ → ℕ → ℕ
joined_m a b x p q = cond (p == q) 0 (x.m p q + (cond (b == p) (x.m a q) 0 + cond (b == q) (x.m p a) 0))

-- the drain links of p once those of a are b's too
abbrev pub joined_s : ℕ → ℕ → Shape → ℕ → ℕ
joined_s a b x p = x.s p + cond (b == p) (x.s a) 0

-- a and b are one site: links between them vanish, sites above a move down by one
unfoldable pub merged : ℕ → ℕ → Shape → Shape
merged a b x = record {
  sites = x.sites - 1;
  m = λ u v. joined_m a b x (up a u) (up a v);
  s = λ v. joined_s a b x (up a v);
}

-- the pair that takes effect: two sites of the board below
abbrev pub merge_active : Shape → Option Pair → Option Pair
merge_active x None = None
merge_active x (Some p) = cond (nat_lt p.a x.sites && (nat_lt p.b x.sites && not (p.a == p.b))) (Some p) None

abbrev pub merge_at : Shape → Option Pair → Shape
merge_at x None = x
merge_at x (Some p) = merged p.a p.b x

-- the board that the layer means: the one below where nothing takes effect
abbrev pub merge_of : Shape → Option Pair → Shape
merge_of x o = merge_at x (merge_active x o)

-- a pair that takes effect does so
abbrev pub MergeOn : Shape → Option Pair → Type 0
MergeOn x None = Unit {0}
MergeOn x (Some p) = (p.a < x.sites) × (p.b < x.sites) × (p.a ≢ p.b)

-- the sites are on the board below, and apart; the layer is not set yet
abbrev pub merge_checks : Shape → Option Pair → ℕ → ℕ → List Check
merge_checks x o a b =
    record { row = row.Site; when = λ p. Misfit x.sites a (Site b) p }
    ∷ record { row = row.LayerSet; when = λ p. (p ≡ 0) × Set o }
    ∷ []

-- the layer on x, set to o, is set to o1: a is merged into b, or nothing changes
abbrev pub Merging : Shape → Option Pair → Option Pair → ℕ → ℕ → Result Unit Refusal → Type 0
Merging x o o1 a b (Ok _) = Passed (merge_checks x o a b) × (o1 ≡ Some (record { a = a; b = b })) × (merge_of x o1 ≡ merged a b x)
Merging x o o1 a b (Err e) = Refused (merge_checks x o a b) part.Merge e × (o1 ≡ o)

-- the lesser of two places
abbrev pub lesser : Option ℕ → Option ℕ → Option ℕ
lesser None None = None
lesser None (Some q) = Some q
lesser (Some p) None = Some p
lesser (Some p) (Some q) = cond (nat_lt p q) (Some p) (Some q)
