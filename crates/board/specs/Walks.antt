-- What follows from the laws of a board: its sums, its degrees, a walk over `next`.
use Rattle.std.specs.Prelude.{◌≡◌, ℕ, ◌+◌, ◌<◌, ◌≤◌, refl}
use Rattle.std.proofs.Common.{◌∙◌, inl, inr, arith}
use Rattle.std.proofs.lemmas.Bool.{cases_lt}
use Rattle.board.specs.Shape.{Shape, Sound, Least, Follows, Degrees, sum_below, deg, row_total}
use Rattle.board.specs.Sums.{sum_suc, sum_same, sum_plus, sum_skip, sum_none, sum_term, sum_more}

pub deg_is : (b : Shape) (v : ℕ) → deg b v ≡ b.s v + row_total b v
unfolding deg
deg_is b v = refl

module _ {b : Shape} (ok : Sound b) where
  -- a site that is linked is on the board
  pub linked_on : (v u : ℕ) → 0 < b.m v u → u < b.sites
  linked_on v u h = elim (cases_lt u b.sites) [ inl l ↦ l | inr l ↦ omega (arith, ok.off v u l) ]

  pub off_left : (u v : ℕ) → b.sites ≤ u → b.m u v ≡ 0
  off_left u v h = ok.symmetric u v ∙ ok.off v u h

  pub deg_off : (v : ℕ) → b.sites ≤ v → deg b v ≡ 0
  deg_off v l = omega (arith, deg_is b v, ok.off_drain v l, sum_none b.sites (b.m v) (λ k h. off_left v k l))

  pub deg_le : (v : ℕ) → deg b v ≤ 500000
  deg_le v = elim (cases_lt v b.sites) [
    | inl l ↦ omega (arith, deg_is b v, ok.total, sum_term b.sites v b.s l, sum_term b.sites v (row_total b) l)
    | inr l ↦ omega (arith, deg_off v l)
  ]

  pub m_deg : (v u : ℕ) → b.m v u ≤ deg b v
  m_deg v u = elim (cases_lt u b.sites) [
    | inl l ↦ omega (arith, deg_is b v, sum_term b.sites u (b.m v) l)
    | inr l ↦ omega (arith, ok.off v u l)
  ]

  pub s_deg : (v : ℕ) → b.s v ≤ deg b v
  s_deg v = omega (arith, deg_is b v)

  pub m_le : (u v : ℕ) → b.m u v ≤ 500000
  m_le u v = omega (arith, m_deg u v, deg_le u)

  pub s_le : (v : ℕ) → b.s v ≤ 500000
  s_le v = omega (arith, s_deg v, deg_le v)

  pub follows : Follows b
  follows = record { linked_on = linked_on; off_left = off_left; m_le = m_le; s_le = s_le }

  pub degrees : Degrees b
  degrees = record {
    is = deg_is b;
    limit = deg_le;
    off = deg_off;
    above_m = m_deg;
    above_s = s_deg;
    all = omega (arith, sum_same b.sites (deg b) (λ v. b.s v + row_total b v) (λ v h. deg_is b v), sum_plus b.sites b.s (row_total b));
  }

  -- one turn of a walk over `next`
  pub walk_on : (v j u : ℕ) → Least (b.m v) j u → sum_below (u + 1) (b.m v) ≡ sum_below j (b.m v) + b.m v u
  walk_on v j u h = omega (arith, sum_suc u (b.m v), sum_skip j u (b.m v) h.from h.before)

  pub walk_le : (v j u : ℕ) → Least (b.m v) j u → b.s v + (sum_below j (b.m v) + b.m v u) ≤ 500000
  walk_le v j u h =
      omega (arith, walk_on v j u h, deg_le v, deg_is b v, sum_more (u + 1) b.sites (b.m v) (omega (arith, linked_on v u h.linked)))

  -- the end of the walk
  pub walk_end : (v j : ℕ) → j ≤ b.sites → ((k : ℕ) → j ≤ k → b.m v k ≡ 0) → sum_below b.sites (b.m v) ≡ sum_below j (b.m v)
  walk_end v j h e = sum_skip j b.sites (b.m v) h (λ k from below. e k from)
