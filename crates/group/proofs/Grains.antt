-- Sums and the identity: few grains, the same settling from the same heights, budgets.
use Rattle.std.proofs.Common.{◌≡◌, ℕ, ◌+◌, ◌-◌, ◌*◌, ◌<◌, ◌≤◌, true, false, List, length, sym, refl, ap, inl, inr, arith}
use Rattle.board.specs.Shape.{Shape, Sound, deg, sum_below}
use Rattle.board.specs.Sums.{sum_same, sum_up, sum_plus}
use Rattle.board.specs.Walks.{degrees}
use Rattle.firing.specs.Firing.{at, fires_from, Still}
use Rattle.firing.specs.Settling.{Same, Settled}
use Rattle.firing.specs.Reaching.{AllReach}
use Rattle.firing.specs.Groups.{Full, Identity}
use Rattle.firing.proofs.Action as action
use Rattle.firing.proofs.Reach.{reach_linked}
use Rattle.firing.proofs.Exist.{least_exists, settled_from, settled_same}
use Rattle.settling.specs.Firings.{grains}
use Rattle.settling.specs.Settlings.{Ended}
use Rattle.settling.specs.declared.settle.Outcome.{Outcome}
use Rattle.group.specs.Sums.{Over, IdentityOver, Halfway}

-- the height from which a site fires is its degree
pub fires_deg : (b : Shape) (v : ℕ) → fires_from b v ≡ deg b v
unfolding fires_from
fires_deg b v = refl

-- all sites together fire from at most 500,000
pub fires_few : (b : Shape) → Sound b → sum_below b.sites (fires_from b) ≤ 500000
fires_few b ok = omega (arith, sum_same b.sites (fires_from b) (deg b) (λ v l. fires_deg b v), (degrees ok).all, ok.total)

-- heights that are at most twice what sites fire from are at most 1,000,000 grains
pub light : (b : Shape) → Sound b → (xs : List ℕ) → length xs ≡ b.sites → ((v : ℕ) → v < b.sites → at xs v ≤ fires_from b v + fires_from b v) → grains xs ≤ 1000000
light b ok xs size low =
    omega (
      arith,
      ap (λ n. sum_below n (at xs)) size,
      sum_up b.sites (at xs) (λ v. fires_from b v + fires_from b v) low,
      sum_plus b.sites (fires_from b) (fires_from b),
      fires_few b ok,
    )

-- the least counts are the same from the same heights
pub over_from : (b : Shape) (c c' : ℕ → ℕ) (budget : ℕ) → Same b c c' → Over b c budget → Over b c' budget
over_from b c c' budget same over = (
  over.0,
  record {
    settles = action.settles_fewer b c' c over.0 (λ v l. omega (arith, same v l)) over.1.settles;
    least = λ w settles. over.1.least w (action.settles_fewer b c c' w (λ v l. omega (arith, same v l)) settles);
  },
  over.2,
)

pub same_back : (b : Shape) (c c' : ℕ → ℕ) → Same b c c' → Same b c' c
same_back b c c' same v l = sym (same v l)

-- a settling that ends still is within its budget
pub not_over : (b : Shape) (c h : ℕ → ℕ) (budget : ℕ) (o : Outcome) → Ended b c h budget o → AllReach b → o.still ≡ true → Over b c budget → ⊥
not_over b c h budget o ended every still over =
    omega (
      arith,
      ended.within,
      ended.total,
      sum_up b.sites over.0 ended.counts (over.1.least ended.counts (ended.least (reach_linked b every) still).settles),
    )

-- one that the budget ends is not
pub is_over : (b : Shape) → Sound b → (c h : ℕ → ℕ) (budget : ℕ) (o : Outcome) → Ended b c h budget o → AllReach b → o.still ≡ false → Over b c budget
is_over b ok c h budget o ended every spent =
    let f = least_exists b ok every c in (f.0, f.1, ended.beyond spent f.0 f.1.settles)

-- x is 2M
abbrev pub Twice : (b : Shape) (x : ℕ → ℕ) → Type 0
Twice b x = (v : ℕ) → v < b.sites → x v + 2 ≡ 2 * fires_from b v

-- z is what y lacks of 2M
abbrev pub Lacks : (b : Shape) (z y : ℕ → ℕ) → Type 0
Lacks b z y = (v : ℕ) → v < b.sites → z v + y v + 2 ≡ 2 * fires_from b v

module _ (b : Shape) (ok : Sound b) (every : AllReach b) where
  -- two still heights, and what all sites fire from
  pub low_pair : (h h' : ℕ → ℕ) → Still b h → Still b h' → (v : ℕ) → v < b.sites → h v + h' v ≤ fires_from b v + fires_from b v
  low_pair h h' still still' v l =
      omega (arith, action.still_below b (reach_linked b every) h still v l, action.still_below b (reach_linked b every) h' still' v l)

  pub fires_le : (v : ℕ) → fires_from b v ≤ 500000
  fires_le v = omega (arith, fires_deg b v, (degrees ok).limit v)

  -- M
  abbrev pub most : ℕ → ℕ
  most v = fires_from b v - 1

  pub fires_some : (v : ℕ) → v < b.sites → 1 ≤ fires_from b v
  fires_some v l = omega (arith, fires_deg b v, reach_linked b every v l)

  pub most_full : Full b most
  most_full v l = omega (arith, fires_some v l)

  pub twice_same : (x f : ℕ → ℕ) → Twice b x → Full b f → Same b x (λ v. 2 * f v)
  twice_same x f twice full v l = omega (arith, twice v l, full v l)

  -- settling 2M is over the budget
  pub first_over : (x : ℕ → ℕ) (budget : ℕ) → Twice b x → Over b x budget → IdentityOver b budget
  first_over x budget twice over = inl (most, most_full, over_from b x (λ v. 2 * most v) budget (twice_same x most twice most_full) over)

  module _ (x y z : ℕ → ℕ) (twice : Twice b x) (settled : Settled b x y) (lack : Lacks b z y) where
    pub halfway : Halfway b most y z
    halfway = record {
      full = most_full;
      settled = settled_from b x (λ v. 2 * most v) y (twice_same x most twice most_full) settled;
      difference = λ v l. omega (arith, lack v l, fires_some v l);
    }

    -- settling the difference is over the budget
    pub second_over : (budget : ℕ) → Over b z budget → IdentityOver b budget
    second_over budget over = inr (most, y, z, halfway, over)

    -- no settling is over the budget
    pub none_over : (budget : ℕ) → (Over b x budget → ⊥) → (Over b z budget → ⊥) → IdentityOver b budget → ⊥
    none_over budget first second (inl (f, full, over)) = first (over_from b (λ v. 2 * f v) x budget (same_back b x (λ v. 2 * f v) (twice_same x f twice full)) over)
    none_over budget first second (inr (f, s, d, half, over)) =
        let same = twice_same x f twice half.full in
        let rest = settled_same b (λ v. 2 * f v) y s (settled_from b x (λ v. 2 * f v) y same settled) half.settled in
        second (over_from b d z budget (λ v l. omega (arith, half.difference v l, lack v l, half.full v l, rest v l)) over)

    pub identity_made : (e : ℕ → ℕ) → Settled b z e → Identity b e
    identity_made e is = record {
      full = most;
      settled = y;
      difference = z;
      is_full = halfway.full;
      is_settled = halfway.settled;
      is_difference = halfway.difference;
      is = is;
    }
