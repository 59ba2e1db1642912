-- The board of a ring.
use Rattle.std.specs.Prelude.{◌≡◌, ℕ, ◌+◌, ◌<◌, cond, ◌&&◌, ◌||◌, List, [], ◌∷◌, ◌==◌, ◌≢◌, nat_lt}
use Rattle.refusal.specs.declared.Row.TheVariants as row
use Rattle.refusal.specs.Table.{Check}
use Rattle.board.specs.Shape.{Shape}
use Rattle.board.specs.Limits.{Beyond}

-- the site after v
abbrev pub after : ℕ → ℕ → ℕ
after n v = cond (v + 1 == n) 0 (v + 1)

-- the ring: one link between a site and the one after it, one drain link at site 0
unfoldable pub ring_of : ℕ → Shape
ring_of n = record {
  sites = n;
  m = λ u v. cond (nat_lt u n && nat_lt v n) (cond (after n u == v || after n v == u) 1 0) 0;
  s = λ v. cond (v == 0) 1 0;
}

-- a ring has 3 to 4,096 sites
abbrev pub ring_checks : ℕ → List Check
ring_checks n = record { row = row.Limit; when = λ p. (p ≡ 0) × Beyond 3 4096 n } ∷ []

-- v is linked to the sites low and high, and to no other
pub record Sides (n v low high : ℕ) : Type 0 where
  pub order : low < high
  pub to_low : (ring_of n).m v low ≡ 1
  pub to_high : (ring_of n).m v high ≡ 1
  pub no_other : (k : ℕ) → (k ≢ low) → (k ≢ high) → (ring_of n).m v k ≡ 0
