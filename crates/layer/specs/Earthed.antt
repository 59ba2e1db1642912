-- An earthed board is a board.
use Rattle.std.specs.Prelude.{◌≡◌, ℕ, ◌+◌, ◌-◌, ◌<◌, ◌≤◌, Bool, true, false, cond, ◌&&◌, ◌⊎◌, Some, None, Option, nat_lt, refl}
use Rattle.std.proofs.Common.{inl, inr}
use Rattle.std.proofs.Math.Path.{ap}
use native.Mathlib.Omega.{arith}
use Rattle.std.proofs.lemmas.Bool.{cond-true, and_parts, and_from, lt-ltb, ltb-true}
use Rattle.board.specs.Shape.{Shape, Sound, sum_below, row_total, all_links}
use Rattle.layer.specs.Layers.{up}
use Rattle.layer.specs.Earths.{earthed, earth_active, earth_at, earth_of, EarthOn}
use Rattle.board.specs.Sums.{sum_same, sum_plus}
use Rattle.board.specs.Walks.{off_left}
use Rattle.layer.specs.Uplifts.{up_above, sum_drop}

module _ {b : Shape} (ok : Sound b) (w : ℕ) (on : w < b.sites) (two : 1 < b.sites) where
  high : (v : ℕ) → b.sites - 1 ≤ v → b.sites ≤ up w v
  high v h = omega (arith, up_above w v (omega arith))

  earthed_total : all_links (earthed w b) ≤ 500000
  unfolding earthed
  earthed_total =
      let n : ℕ = b.sites - 1 in
      let rest : ℕ → ℕ = λ u. sum_below n (λ v. b.m (up w u) (up w v)) in
      let to : ℕ → ℕ = λ u. b.m (up w u) w in
      let s1 : ℕ → ℕ = λ u. b.s (up w u) in
      let rows = sum_same n (λ u. row_total b (up w u)) (λ u. rest u + to u) (λ u l. sum_drop b.sites w (b.m (up w u)) on) in
      omega (
        arith,
        ok.total,
        rows,
        sum_plus n rest to,
        sum_plus n s1 to,
        sum_drop b.sites w (row_total b) on,
        sum_drop b.sites w b.s on,
      )

  pub earthed_sound : Sound (earthed w b)
  unfolding earthed
  earthed_sound = record {
    some = omega arith;
    few = omega (arith, ok.few);
    symmetric = λ u v. ok.symmetric (up w u) (up w v);
    no_loop = λ v. ok.no_loop (up w v);
    off = λ u v h. ok.off (up w u) (up w v) (high v h);
    off_drain = λ v h. omega (arith, ok.off_drain (up w v) (high v h), off_left ok (up w v) w (high v h));
    total = earthed_total;
  }

sound_at : (b : Shape) → Sound b → (o : Option ℕ) → EarthOn b o → Sound (earth_at b o)
sound_at b ok None h = ok
sound_at b ok (Some w) h = earthed_sound ok w h.0 h.1

active_on : (b : Shape) (o : Option ℕ) → EarthOn b (earth_active b o)
active_on b None = tt
active_on b (Some w) = go (nat_lt w b.sites && nat_lt 1 b.sites) refl where
  go : (t : Bool) → (nat_lt w b.sites && nat_lt 1 b.sites) ≡ t → EarthOn b (cond t (Some w) None)
  go false e = tt
  go true e = let p = and_parts (nat_lt w b.sites) (nat_lt 1 b.sites) e in (ltb-true w b.sites p.0, ltb-true 1 b.sites p.1)

-- whatever the layer is set to
pub earth_sound : (b : Shape) → Sound b → (o : Option ℕ) → Sound (earth_of b o)
earth_sound b ok o = sound_at b ok (earth_active b o) (active_on b o)

-- the members of the layer where w is earthed
module _ (b : Shape) (o : Option ℕ) (w : ℕ) (e : earth_active b o ≡ Some w) where
  is_earthed : earth_of b o ≡ earthed w b
  is_earthed = ap (earth_at b) e

  pub at_sites : (earth_of b o).sites ≡ b.sites - 1
  unfolding earthed
  at_sites = ap (λ (x : Shape). x.sites) is_earthed

  pub at_m : (u v : ℕ) → (earth_of b o).m u v ≡ b.m (up w u) (up w v)
  unfolding earthed
  at_m u v = ap (λ (x : Shape). x.m u v) is_earthed

  pub at_s : (v : ℕ) → (earth_of b o).s v ≡ b.s (up w v) + b.m (up w v) w
  unfolding earthed
  at_s v = ap (λ (x : Shape). x.s v) is_earthed

  module _ (ok : Sound b) where
    pub off_zero : (u v : ℕ) → (b.sites - 1 ≤ u) ⊎ (b.sites - 1 ≤ v) → (earth_of b o).m u v ≡ 0
    off_zero u v (inl h) = off_left (earth_sound b ok o) u v (omega (arith, at_sites))
    off_zero u v (inr h) = (earth_sound b ok o).off u v (omega (arith, at_sites))

-- a site that is set takes effect
pub set_earthed : (b : Shape) (w : ℕ) → w < b.sites → 1 < b.sites → earth_of b (Some w) ≡ earthed w b
set_earthed b w on two =
    ap (earth_at b) (cond-true (nat_lt w b.sites && nat_lt 1 b.sites) (Some w) None (and_from _ _ (lt-ltb w b.sites on) (lt-ltb 1 b.sites two)))
