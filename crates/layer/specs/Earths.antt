-- Earth: what the layer makes of the board below.
use Rattle.std.specs.Prelude.{◌≡◌, ℕ, ◌+◌, ◌-◌, ◌<◌, ◌≤◌, cond, ◌&&◌, ◌⊎◌, List, [], ◌∷◌, Some, None, Ok, Err, Option, Result, nat_lt}
use Rattle.refusal.specs.declared.Row.TheVariants as row
use Rattle.refusal.specs.declared.Part.TheVariants as part
use Rattle.refusal.specs.declared.Refusal.{Refusal}
use Rattle.refusal.specs.Table.{Check, Passed, Refused}
use Rattle.board.specs.Shape.{Shape}
use Rattle.layer.specs.Layers.{up, Set}

-- w is part of the drain: links to it are drain links, sites above it move down by one
unfoldable pub earthed : ℕ → Shape → Shape
earthed w b = record {
  sites = b.sites - 1;
  m = λ u v. b.m (up w u) (up w v);
  s = λ v. b.s (up w v) + b.m (up w v) w;
}

-- the site that takes effect: on the board below, and not its only one
abbrev pub earth_active : Shape → Option ℕ → Option ℕ
earth_active b None = None
earth_active b (Some w) = cond (nat_lt w b.sites && nat_lt 1 b.sites) (Some w) None

abbrev pub earth_at : Shape → Option ℕ → Shape
earth_at b None = b
earth_at b (Some w) = earthed w b

-- the board that the layer means: the one below where nothing takes effect
abbrev pub earth_of : Shape → Option ℕ → Shape
earth_of b o = earth_at b (earth_active b o)

-- a site that takes effect does so
abbrev pub EarthOn : Shape → Option ℕ → Type 0
EarthOn b None = Unit {0}
EarthOn b (Some w) = (w < b.sites) × (1 < b.sites)

-- the site is on the board below; the layer is not set yet, and the board has another site
abbrev pub earth_checks : Shape → Option ℕ → ℕ → List Check
earth_checks b o w =
    record { row = row.Site; when = λ p. (p ≡ w) × (b.sites ≤ w) }
    ∷ record { row = row.LayerSet; when = λ p. (p ≡ 0) × (Set o ⊎ (b.sites ≡ 1)) }
    ∷ []

-- the layer on b, set to o, is set to o1: w is earthed, or nothing changes
abbrev pub Earthing : Shape → Option ℕ → Option ℕ → ℕ → Result Unit Refusal → Type 0
Earthing b o o1 w (Ok _) = Passed (earth_checks b o w) × (o1 ≡ Some w) × (earth_of b o1 ≡ earthed w b)
Earthing b o o1 w (Err e) = Refused (earth_checks b o w) part.Earth e × (o1 ≡ o)
