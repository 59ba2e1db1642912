-- There is an identity, and only one.
use Rattle.std.proofs.Common.{ℕ, ◌-◌, ◌*◌, ◌<◌, ◌≤◌, arith}
use Rattle.board.specs.Shape.{Shape, Sound}
use Rattle.firing.specs.Firing.{fires_from}
use Rattle.firing.specs.Settling.{Same, Settled}
use Rattle.firing.specs.Reaching.{AllReach}
use Rattle.firing.specs.Groups.{Full, Identity}
use Rattle.firing.proofs.Degrees.{deg_fires_from}
use Rattle.firing.proofs.Reach.{reach_linked}
use Rattle.firing.proofs.Action.{still_below}
use Rattle.firing.proofs.Exist.{settled_once, settled_same, settled_still, settled_from}

module _ (b : Shape) (sound : Sound b) (all_reach : AllReach b) where
  -- M
  abbrev most : ℕ → ℕ
  most v = fires_from b v - 1

  most_full : Full b most
  most_full v l = omega (arith, reach_linked b all_reach v l, deg_fires_from b v)

  -- settled heights are at most M
  pub settled_most : (c h f : ℕ → ℕ) → Full b f → Settled b c h → (v : ℕ) → v < b.sites → h v ≤ f v
  settled_most c h f full s v l = omega (arith, still_below b (reach_linked b all_reach) h (settled_still b c h s) v l, full v l)

  pub identity_exists : (e : ℕ → ℕ) × Identity b e
  identity_exists =
      let s = settled_once b sound all_reach (λ v. 2 * most v) in
      let e = settled_once b sound all_reach (λ v. 2 * most v - s.0 v) in (
        e.0,
        record {
          full = most;
          settled = s.0;
          difference = λ v. 2 * most v - s.0 v;
          is_full = most_full;
          is_settled = s.1;
          is_difference = λ v l. omega (arith, settled_most (λ u. 2 * most u) s.0 most most_full s.1 v l);
          is = e.1;
        },
      )

pub identity_same : (b : Shape) (e e' : ℕ → ℕ) → Identity b e → Identity b e' → Same b e e'
identity_same b e e' one two = settled_same b one.difference e e' one.is (settled_from b two.difference one.difference e' left two.is)
  where
    full : Same b two.full one.full
    full v l = omega (arith, one.is_full v l, two.is_full v l)

    rest : Same b one.settled two.settled
    rest = settled_same b (λ v. 2 * one.full v) one.settled two.settled one.is_settled
        (settled_from b (λ v. 2 * two.full v) (λ v. 2 * one.full v) two.settled (λ v l. omega (arith, full v l)) two.is_settled)

    left : Same b two.difference one.difference
    left v l = omega (arith, one.is_difference v l, two.is_difference v l, full v l, rest v l)
