-- The phases that events need and lead to, and what steps of a bench do to its totals.
use Rattle.std.proofs.Common.{◌≡◌, ℕ, ◌+◌, ◌<◌, ◌≤◌, List, length, set, Some, None, Option, refl, ◌∙◌, arith, get_or-set_other, get_or-set_same}
use Rattle.board.specs.Shape.{sum_below}
use Rattle.firing.specs.Firing.{at}
use Rattle.firing.proofs.Sums.{sum_point}
use Rattle.bench.specs.declared.Phase.{Phase}
use Rattle.bench.specs.declared.Phase.TheVariants.{Resting, Open, Shelved}
use Rattle.bench.specs.declared.phases.Event.{Event}
use Rattle.bench.specs.declared.phases.Event.TheVariants.{Drop, Fire, Close}
use Rattle.bench.specs.Phases.{after}

never : {A : Type 0} {a : A} → ◌≡◌ {A = Option A} (Some a) None → ⊥
never e = let z : ◌≡◌ {A = ℕ} 0 1 = cc in omega arith

pub after_drop : (p q : Phase) → Some q ≡ after p Drop → (p ≡ Resting) × (q ≡ Open)
after_drop Resting q e = (refl, cc)
after_drop Open q e = absurd (never e)
after_drop Shelved q e = absurd (never e)

pub after_fire : (p q : Phase) → Some q ≡ after p Fire → (p ≡ Open) × (q ≡ Open)
after_fire Resting q e = absurd (never e)
after_fire Open q e = (refl, cc)
after_fire Shelved q e = absurd (never e)

pub after_close : (p q : Phase) → Some q ≡ after p Close → (p ≡ Open) × (q ≡ Resting)
after_close Resting q e = absurd (never e)
after_close Open q e = (refl, cc)
after_close Shelved q e = absurd (never e)

pub some_none : (p q : Phase) (e : Event) → Some q ≡ after p e → after p e ≡ None → ⊥
some_none p q e s n = never (s ∙ n)

-- one entry of a list grows
pub set_total : (n : ℕ) (xs : List ℕ) (v y k : ℕ) → v < n → n ≤ length xs → y ≡ at xs v + k → sum_below n (at (set xs v y)) ≡ sum_below n (at xs) + k
set_total n xs v y k on long e =
    sum_point n (at xs) (at (set xs v y)) v k on (get_or-set_same xs v y 0 (omega arith) ∙ e) (λ u l ne. get_or-set_other xs v u y 0 ne)
