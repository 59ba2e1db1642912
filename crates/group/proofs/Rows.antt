-- The rows of sums and of the identity, from what the calls have looked at.
use Rattle.std.proofs.Common.{◌≡◌, ℕ, ◌+◌, ◌<◌, ◌≤◌, ◌⊎◌, List, length, Ok, Err, Result, ap, inl, inr, arith}
use Rattle.refusal.specs.declared.Row.TheVariants as row
use Rattle.refusal.specs.declared.Part.TheVariants as part
use Rattle.refusal.specs.declared.Refusal.{Refusal}
use Rattle.board.specs.Limits.{Beyond}
use Rattle.board.specs.Shape.{Shape, Sound}
use Rattle.firing.specs.Firing.{at, fires_from, Lowest, Still}
use Rattle.firing.specs.Settling.{Same}
use Rattle.firing.proofs.Exist.{settled_from}
use Rattle.settling.specs.Reaching.{Astray}
use Rattle.settling.specs.Settlings.{Fit}
use Rattle.group.specs.Sums.{Short, Unstill, IdentityOver, Bare, Left, Spent, Ready, Within, Summed, IdentityIs}
use Rattle.group.proofs.Grains.{Twice, Lacks, light, over_from, same_back, first_over, second_over, none_over, identity_made}

-- the row, the place and the part of a refusal by a budget
spent_row : (e : Refusal) → Spent e → e.row ≡ row.Budget
spent_row e spent = ap (λ (r : Refusal). r.row) spent

spent_place : (e : Refusal) → Spent e → e.place ≡ 0
spent_place e spent = ap (λ (r : Refusal). r.place) spent

spent_part : (e : Refusal) → Spent e → e.part ≡ part.Group
spent_part e spent = ap (λ (r : Refusal). r.part) spent

left : (n : ℕ) (e : Refusal) (xs ys : List ℕ) → Spent e → Bare n ys → Left n e.row xs ys
left n e xs ys spent bare = record { cleared = λ r. bare; same = λ other. absurd (other (spent_row e spent)) }

module _ {b : Shape} {waiting bytes budget : ℕ} (xs : List ℕ) (ready : Ready b (length xs) waiting bytes budget) where
  -- settling may begin
  pub fit : Sound b → (ms : List ℕ) (waiting' bytes' : ℕ) → length ms ≡ length xs → waiting' ≡ waiting → bytes' ≡ bytes → ((v : ℕ) → v < b.sites → at ms v ≤ fires_from b v + fires_from b v) → Fit b.sites ms waiting' bytes'
  fit ok ms waiting' bytes' long w f low = record {
    sized = omega (arith, ready.sized);
    list = omega (arith, ready.list);
    marks = omega (arith, ready.marks);
    light = light b ok ms (omega (arith, ready.sized)) low;
  }

  not_short : Short b.sites (length xs) waiting bytes → ⊥
  not_short (inl other) = other ready.sized
  not_short (inr (inl few)) = omega (arith, ready.list)
  not_short (inr (inr few)) = omega (arith, ready.marks)

  not_beyond : Beyond 1 1000000000 budget → ⊥
  not_beyond (inl less) = omega (arith, ready.some)
  not_beyond (inr more) = omega (arith, ready.most)

  not_astray : (p : ℕ) → Lowest b (Astray b) p → ⊥
  not_astray p low = low.holds (ready.reach p low.on)

  identity_refused : (ys : List ℕ) (e : Refusal) → Spent e → Bare b.sites ys → IdentityOver b budget → IdentityIs b xs ys waiting bytes budget (Err e)
  identity_refused ys e spent bare over = (
    record {
      by = inr (λ p w. not_short w.1, inr (λ p w. not_beyond w.1, inr (not_astray, inl (spent_row e spent, (spent_place e spent, over)))));
      from = spent_part e spent;
    },
    left b.sites e xs ys spent bare,
  )

  module _ (ok : Sound b) (ms : List ℕ) (twice : Twice b (at ms)) where
    -- the first settling of the identity is over the budget
    pub identity_first : (ys : List ℕ) (e : Refusal) → Within b budget ms ys (Err e) → IdentityIs b xs ys waiting bytes budget (Err e)
    identity_first ys e within = identity_refused ys e within.2 within.1 (first_over b ok ready.reach (at ms) budget twice within.0)

    -- the second settling of the identity ends it
    pub identity_second : (ss ds ys : List ℕ) → Within b budget ms ss (Ok tt) → Lacks b (at ds) (at ss) → (r : Result Unit Refusal) → Within b budget ds ys r → IdentityIs b xs ys waiting bytes budget r
    identity_second ss ds ys first lack (Ok _) second = (
      (λ p w. not_short w.1, (λ p w. not_beyond w.1, (not_astray, (λ p w. none_over b ok ready.reach (at ms) (at ss) (at ds) twice first.0 lack budget first.1 second.1 w.1, tt)))),
      identity_made b ok ready.reach (at ms) (at ss) (at ds) twice first.0 lack (at ys) second.0,
    )
    identity_second ss ds ys first lack (Err e) second = identity_refused ys e second.2 second.1 (second_over b ok ready.reach (at ms) (at ss) (at ds) twice first.0 lack budget second.0)

  module _ (hs hs' : List ℕ) (size : length hs ≡ b.sites) (size' : length hs' ≡ b.sites) (still : Still b (at hs)) (still' : Still b (at hs')) where
    not_lent : (length hs ≡ b.sites → ⊥) ⊎ (length hs' ≡ b.sites → ⊥) ⊎ Short b.sites (length xs) waiting bytes → ⊥
    not_lent (inl other) = other size
    not_lent (inr (inl other)) = other size'
    not_lent (inr (inr short)) = not_short short

    not_unstill : (p : ℕ) → Unstill b (at hs) (at hs') p → ⊥
    not_unstill p (inl low) = still p low.on low.holds
    not_unstill p (inr (first, low)) = still' p low.on low.holds

    -- the settling of a sum ends it
    pub sum_settled : (ms ys : List ℕ) → Same b (at ms) (λ v. at hs v + at hs' v) → (r : Result Unit Refusal) → Within b budget ms ys r → Summed b hs hs' xs ys waiting bytes budget r
    sum_settled ms ys added (Ok _) within = (
      (
        λ p w. not_lent w.1,
        (
          λ p w. not_beyond w.1,
          (not_astray, (not_unstill, (λ p w. within.1 (over_from b (λ v. at hs v + at hs' v) (at ms) budget (same_back b (at ms) (λ v. at hs v + at hs' v) added) w.1), tt))),
        ),
      ),
      settled_from b (at ms) (λ v. at hs v + at hs' v) (at ys) added within.0,
    )
    sum_settled ms ys added (Err e) within = (
      record {
        by = inr (λ p w. not_lent w.1, inr (λ p w. not_beyond w.1, inr (not_astray, inr (not_unstill, inl (spent_row e within.2, (spent_place e within.2, over_from b (at ms) (λ v. at hs v + at hs' v) budget added within.0))))));
        from = spent_part e within.2;
      },
      left b.sites e xs ys within.2 within.1,
    )
