-- Sites that can fire, by the numbers that the code compares.
use Rattle.std.proofs.Common.{◌≡◌, ℕ, ◌≤◌, Bool, true, false, List, length, MatchBool, sym, subst, arith}
use Rattle.std.proofs.lemmas.List.{get_or_past}
use Rattle.board.specs.Shape.{Shape, deg}
use Rattle.firing.specs.Firing.{fires_from, CanFire}
use Rattle.firing.specs.Firing.{at}
use Rattle.settling.specs.Firings.{Enough}

pub enough_can : (b : Shape) (h : ℕ → ℕ) (v : ℕ) → Enough (deg b v) (h v) → CanFire b h v
unfolding fires_from
enough_can b h v e = e

pub can_enough : (b : Shape) (h : ℕ → ℕ) (v : ℕ) → CanFire b h v → Enough (deg b v) (h v)
unfolding fires_from
can_enough b h v e = e

-- a test of the degree and the height is a test of whether v can fire
pub tested : (b : Shape) (h : ℕ → ℕ) (v d : ℕ) (r : Bool) → d ≡ deg b v → MatchBool r (Enough d (h v)) (Enough d (h v) → ⊥) → MatchBool r (CanFire b h v) (CanFire b h v → ⊥)
tested b h v d true e t = enough_can b h v (subst (λ k. Enough k (h v)) e t)
tested b h v d false e t = λ can. t (subst (λ k. Enough k (h v)) (sym e) (can_enough b h v can))

-- past the end of the heights no site can fire
pub past_still : (b : Shape) (xs : List ℕ) (v : ℕ) → length xs ≤ v → CanFire b (at xs) v → ⊥
past_still b xs v l can = let e = can_enough b (at xs) v can in omega (arith, get_or_past xs v 0 l)
