-- What comes to a site, summed over a walk of its neighbours.
use Rattle.std.proofs.Common.{◌≡◌, ℕ, ◌+◌, ◌*◌, ◌≤◌, sym, ap, ◌∙◌, mul-le-mul_right, mul-le-mul_left, zero-mul, arith}
use Rattle.board.specs.Shape.{Shape, Sound, Least, sum_below}
use Rattle.board.specs.Sums.{sum_suc, sum_up, sum_skip, sum_more}
use Rattle.board.specs.Walks.{deg_is, deg_le, linked_on}
use Rattle.firing.specs.Settling.{inflow}
use Rattle.firing.proofs.Sums.{sum_scale}
use Rattle.firing.proofs.Degrees.{links_back}

-- what comes to v from the sites below j
pub record InflowBelow (b : Shape) (w : ℕ → ℕ) (v j sum : ℕ) : Type 0 where
  pub on : j ≤ b.sites
  pub is : sum ≡ sum_below j (λ u. b.m u v * w u)

pub inflow_none : (b : Shape) (w : ℕ → ℕ) (v : ℕ) → InflowBelow b w v 0 0
unfolding sum_below
inflow_none b w v = record { on = omega arith; is = omega arith }

module _ {b : Shape} (ok : Sound b) (w : ℕ → ℕ) (v : ℕ) where
  -- what comes from one site
  abbrev from : ℕ → ℕ
  from u = b.m u v * w u

  none_from : (u : ℕ) → b.m v u ≡ 0 → from u ≡ 0
  none_from u e = ap (λ x. x * w u) (ok.symmetric u v ∙ e) ∙ zero-mul (w u)

  -- one turn of the walk
  pub inflow_more : (j u sum : ℕ) → InflowBelow b w v j sum → Least (b.m v) j u → InflowBelow b w v (u + 1) (sum + b.m u v * w u)
  inflow_more j u sum i h = record {
    on = omega (arith, linked_on ok v u h.linked);
    is = omega (arith, i.is, sum_suc u from, sum_skip j u from h.from (λ k f l. none_from k (h.before k f l)));
  }

  -- its end
  pub inflow_all : (j sum : ℕ) → InflowBelow b w v j sum → ((k : ℕ) → j ≤ k → b.m v k ≡ 0) → sum ≡ inflow b w v
  inflow_all j sum i none = i.is ∙ sym (sum_skip j b.sites from i.on (λ k f l. none_from k (none k f)))

  -- no more comes in than the degree times the highest count
  pub inflow_low : (limit : ℕ) → ((u : ℕ) → w u ≤ limit) → inflow b w v ≤ 500000 * limit
  inflow_low limit low =
      let few : sum_below b.sites (λ u. b.m u v) ≤ 500000 = omega (arith, links_back b ok v, deg_is b v, deg_le ok v) in
      omega (
        arith,
        sum_up b.sites from (λ u. b.m u v * limit) (λ u l. mul-le-mul_left (b.m u v) (low u)),
        sum_scale b.sites (λ u. b.m u v) limit,
        mul-le-mul_right limit few,
      )

  pub inflow_fits : (limit j u sum : ℕ) → ((u : ℕ) → w u ≤ limit) → InflowBelow b w v j sum → Least (b.m v) j u → sum + b.m u v * w u ≤ 500000 * limit
  inflow_fits limit j u sum low i h =
      omega (arith, inflow_low limit low, (inflow_more j u sum i h).is, sum_more (u + 1) b.sites from (omega (arith, linked_on ok v u h.linked)))

-- what goes along a site's links fits
pub sent_low : (m t : ℕ) → m ≤ 500000 → t ≤ 1000000000000 → m * t ≤ 500000000000000000
sent_low m t few low = omega (arith, mul-le-mul_right t few, mul-le-mul_left 500000 low)
