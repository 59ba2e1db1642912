-- The checks on the definitions.
use Rattle.std.proofs.Common.{◌≡◌, ℕ, zero, suc, ◌+◌, ◌<◌, true, eqb, ◌≢◌, [], ◌∷◌, refl, arith, lit<, lit≤}
use Rattle.std.proofs.lemmas.Bool.{both_ways}
use Rattle.board.specs.Shape.{deg, sum_below}
use Rattle.board.specs.Grids.{grid_of}
use Rattle.board.specs.Lists.{bare, linked}
use Rattle.firing.specs.Firing.{at, fires_from, CanFire, Still, Fires, Run, begin, fire, Lowest}
use Rattle.firing.specs.Settling.{Settles, FollowsAt, Follows, Least, Settled}
use Rattle.firing.specs.Reaching.{Reaches, out, along, AllReach, AllLinked}
use Rattle.firing.specs.TakingBack.{TakesBack, Empty, Largest}
use Rattle.firing.specs.Certificates.{Certified, NotFollowingAt, TakenBackAt}
use Rattle.firing.specs.Burning.{Rounds, Recurrent, Stays}
use Rattle.firing.specs.Groups.{Full}
use Rattle.firing.specs.Checks.{island, pier, shore, Checks}
use Rattle.firing.proofs.Action as action
use Rattle.firing.proofs.Exist as exist
use Rattle.firing.proofs.Reach as reach
use Rattle.firing.proofs.Rounds as burning
use Rattle.firing.proofs.Computed as computed
use Rattle.firing.proofs.Examples as examples

no_link : Still (bare 1) (at (7 ∷ []))
unfolding deg sum_below
no_link zero l p = omega (arith, p.0)
no_link (suc v) l p = omega arith

not_still : Still (grid_of 1 2) (at (0 ∷ 4 ∷ [])) → ⊥
unfolding grid_of deg sum_below fires_from
not_still still = still 1 (lit< tt) (lit≤ tt, lit≤ tt)

own_degree : CanFire pier (at (2 ∷ 2 ∷ [])) 0 × (CanFire pier (at (2 ∷ 2 ∷ [])) 1 → ⊥)
unfolding linked deg sum_below fires_from
own_degree = ((lit≤ tt, lit≤ tt), λ p. omega (arith, p.1))

not_lowest : Lowest (grid_of 1 2) (CanFire (grid_of 1 2) (at (4 ∷ 4 ∷ []))) 1 → ⊥
unfolding grid_of deg sum_below fires_from
not_lowest l = l.before 0 (lit< tt) (lit≤ tt, lit≤ tt)

fires_twice : Fires pier 1 (at (0 ∷ 3 ∷ [])) (at (2 ∷ 0 ∷ []))
unfolding linked deg sum_below fires_from
fires_twice = record { on = lit< tt; can = (lit≤ tt, lit≤ tt); gives = refl; gets = gets }
  where
    gets : (u : ℕ) → u < 2 → u ≢ 1 → at (2 ∷ 0 ∷ []) u ≡ at (0 ∷ 3 ∷ []) u + pier.m 1 u
    gets zero l ne = refl
    gets (suc zero) l ne = absurd (ne refl)
    gets (suc (suc u)) l ne = absurd (omega arith)

fires : Fires (grid_of 1 3) 0 (at (4 ∷ 0 ∷ 0 ∷ [])) (at (0 ∷ 1 ∷ 0 ∷ []))
unfolding grid_of deg sum_below fires_from
fires = record { on = lit< tt; can = (lit≤ tt, lit≤ tt); gives = refl; gets = gets }
  where
    gets : (u : ℕ) → u < 3 → u ≢ 0 → at (0 ∷ 1 ∷ 0 ∷ []) u ≡ at (4 ∷ 0 ∷ 0 ∷ []) u + (grid_of 1 3).m 0 u
    gets zero l ne = absurd (ne refl)
    gets (suc zero) l ne = refl
    gets (suc (suc zero)) l ne = refl
    gets (suc (suc (suc u))) l ne = absurd (omega arith)

run : Run (grid_of 1 2) (at (4 ∷ 3 ∷ [])) (at (1 ∷ 0 ∷ [])) (at (1 ∷ 1 ∷ []))
unfolding grid_of deg sum_below fires_from
run =
    fire 1
    (fire 0 (begin {h = at (4 ∷ 3 ∷ [])} {w = at (0 ∷ 0 ∷ [])} (λ v l. refl) none)
    (record { on = lit< tt; can = (lit≤ tt, lit≤ tt); gives = refl; gets = first })
    (record { one_more = refl; others = counted }))
    (record { on = lit< tt; can = (lit≤ tt, lit≤ tt); gives = refl; gets = second })
    (record { one_more = refl; others = counted_too })
  where
    none : (v : ℕ) → v < 2 → at (0 ∷ 0 ∷ []) v ≡ 0
    none zero l = refl
    none (suc zero) l = refl
    none (suc (suc v)) l = refl

    first : (u : ℕ) → u < 2 → u ≢ 0 → at (0 ∷ 4 ∷ []) u ≡ at (4 ∷ 3 ∷ []) u + (grid_of 1 2).m 0 u
    first zero l ne = absurd (ne refl)
    first (suc zero) l ne = refl
    first (suc (suc u)) l ne = absurd (omega arith)

    counted : (u : ℕ) → u < 2 → u ≢ 0 → at (1 ∷ 0 ∷ []) u ≡ at (0 ∷ 0 ∷ []) u
    counted zero l ne = absurd (ne refl)
    counted (suc zero) l ne = refl
    counted (suc (suc u)) l ne = refl

    second : (u : ℕ) → u < 2 → u ≢ 1 → at (1 ∷ 0 ∷ []) u ≡ at (0 ∷ 4 ∷ []) u + (grid_of 1 2).m 1 u
    second zero l ne = refl
    second (suc zero) l ne = absurd (ne refl)
    second (suc (suc u)) l ne = absurd (omega arith)

    counted_too : (u : ℕ) → u < 2 → u ≢ 1 → at (1 ∷ 1 ∷ []) u ≡ at (1 ∷ 0 ∷ []) u
    counted_too zero l ne = refl
    counted_too (suc zero) l ne = absurd (ne refl)
    counted_too (suc (suc u)) l ne = refl

-- (3,3) is still: no firing at all is needed
none_settles : Settles (grid_of 1 2) (at (3 ∷ 3 ∷ [])) (at (0 ∷ 0 ∷ []))
unfolding grid_of deg sum_below fires_from
none_settles = computed.settles (grid_of 1 2) (at (3 ∷ 3 ∷ [])) (at (0 ∷ 0 ∷ [])) refl

on_pair : 0 < (grid_of 1 2).sites
unfolding grid_of
on_pair = lit< tt

no_run : (h : ℕ → ℕ) → Run (grid_of 1 2) (at (3 ∷ 3 ∷ [])) h (at (1 ∷ 1 ∷ [])) → ⊥
no_run h r = omega (arith, action.least_action (grid_of 1 2) examples.sound_pair (at (3 ∷ 3 ∷ [])) (at (0 ∷ 0 ∷ [])) none_settles r 0 on_pair)

no_end : (h : ℕ → ℕ) → Follows (grid_of 1 2) (at (0 ∷ 0 ∷ [])) (at (1 ∷ 5 ∷ [])) h → ⊥
unfolding grid_of deg sum_below
no_end h follows = omega (arith, follows 1 (lit< tt))

not_following : NotFollowingAt (grid_of 1 2) (at (0 ∷ 0 ∷ [])) (at (0 ∷ 5 ∷ [])) (at (5 ∷ 0 ∷ [])) 1
unfolding grid_of deg sum_below
not_following = record { on = lit< tt; holds = λ e. omega arith; before = before }
  where
    before : (u : ℕ) → u < 1 → (FollowsAt (grid_of 1 2) (at (0 ∷ 0 ∷ [])) (at (0 ∷ 5 ∷ [])) (at (5 ∷ 0 ∷ [])) u → ⊥) → ⊥
    before zero l p = p refl
    before (suc u) l p = omega arith

settled : Settled (grid_of 1 2) (at (3 ∷ 3 ∷ [])) (at (3 ∷ 3 ∷ []))
unfolding grid_of deg sum_below fires_from
settled = computed.settled (grid_of 1 2) examples.sound_pair refl (at (3 ∷ 3 ∷ [])) (at (0 ∷ 0 ∷ [])) (at (3 ∷ 3 ∷ [])) (at (1 ∷ 1 ∷ [])) refl refl refl refl

not_settled : Settled (grid_of 1 2) (at (3 ∷ 3 ∷ [])) (at (0 ∷ 0 ∷ [])) → ⊥
not_settled s = omega (arith, exist.settled_same (grid_of 1 2) (at (3 ∷ 3 ∷ [])) (at (3 ∷ 3 ∷ [])) (at (0 ∷ 0 ∷ [])) settled s 0 on_pair)

by_chain : Reaches pier 0
unfolding linked
by_chain = along 0 1 (lit< tt) (lit≤ tt) (out 1 (lit< tt) (lit≤ tt))

no_chain : (Reaches island 0 → ⊥) × (Reaches shore 0 → ⊥)
unfolding linked sum_below
no_chain = (
  λ r. both_ways (reach.within island 2 0) refl (reach.reaches_near island r),
  λ r. both_ways (reach.within shore 2 0) refl (reach.reaches_near shore r),
)

all_reach : AllReach pier
unfolding linked
all_reach zero l = by_chain
all_reach (suc zero) l = out 1 (lit< tt) (lit≤ tt)
all_reach (suc (suc v)) l = absurd (omega arith)

linked_only : AllReach pier × AllLinked island × (AllReach island → ⊥) × (AllLinked shore → ⊥)
unfolding linked deg sum_below
linked_only = (all_reach, computed.linked island refl, λ reaches. no_chain.0 (reaches 0 (lit< tt)), λ all. omega (arith, all 0 (lit< tt)))

back_links : TakesBack pier (at (1 ∷ 1 ∷ [])) (at (1 ∷ 1 ∷ [])) (λ v. true)
unfolding linked deg sum_below fires_from
back_links zero l e = (lit≤ tt, lit< tt)
back_links (suc zero) l e = (lit≤ tt, lit< tt)
back_links (suc (suc v)) l e = absurd (omega arith)

empty : Empty (grid_of 1 2) (λ v. eqb v 9) × (Empty (grid_of 1 2) (λ v. eqb v 1) → ⊥)
unfolding grid_of
empty = (none, λ e. both_ways (eqb 1 1) (e 1 (lit< tt)) refl)
  where
    none : Empty (grid_of 1 2) (λ v. eqb v 9)
    none zero l = refl
    none (suc zero) l = refl
    none (suc (suc v)) l = absurd (omega arith)

full : Full pier (at (1 ∷ 2 ∷ []))
unfolding linked deg sum_below fires_from
full v l = computed.equal 2 (λ v. at (1 ∷ 2 ∷ []) v + 1) (fires_from pier) refl v l

back_unfired : TakesBack (grid_of 1 2) (at (1 ∷ 0 ∷ [])) (at (0 ∷ 0 ∷ [])) (λ v. true) → ⊥
unfolding grid_of
back_unfired back = omega (arith, (back 1 (lit< tt) refl).0)

back_high : TakesBack (grid_of 1 2) (at (1 ∷ 1 ∷ [])) (at (1 ∷ 0 ∷ [])) (λ v. true) → ⊥
unfolding grid_of deg sum_below fires_from
back_high back = omega (arith, (back 0 (lit< tt) refl).1)

back_alone : TakesBack (grid_of 1 2) (at (1 ∷ 1 ∷ [])) (at (0 ∷ 0 ∷ [])) (λ v. eqb v 0) → ⊥
unfolding grid_of deg sum_below fires_from
back_alone back = omega (arith, (back 0 (lit< tt) refl).1)

not_largest : Largest (grid_of 1 2) (at (1 ∷ 1 ∷ [])) (at (0 ∷ 0 ∷ [])) (λ v. eqb v 9) → ⊥
not_largest l = both_ways (eqb 0 9) refl (l.holds (λ v. true) examples.both_back 0 on_pair refl)

least_settles : Least (grid_of 1 2) (at (4 ∷ 3 ∷ [])) (at (0 ∷ 0 ∷ [])) → ⊥
unfolding grid_of deg sum_below fires_from
least_settles l = omega (arith, l.settles 0 (lit< tt))

not_follows : Certified (grid_of 1 2) (at (0 ∷ 0 ∷ [])) (at (0 ∷ 0 ∷ [])) (at (1 ∷ 0 ∷ [])) → ⊥
unfolding grid_of deg sum_below
not_follows p = omega (arith, p.follows 0 (lit< tt))

not_certified : Certified (grid_of 1 2) (at (3 ∷ 3 ∷ [])) (at (1 ∷ 1 ∷ [])) (at (0 ∷ 0 ∷ [])) → ⊥
not_certified p = both_ways true (p.none_back (λ v. true) examples.both_back 0 on_pair) refl

not_stays : Stays (grid_of 1 2) (at (1 ∷ 0 ∷ [])) (λ v. true) → ⊥
unfolding grid_of deg sum_below fires_from
not_stays stays = omega (arith, stays 0 (lit< tt) refl)

four_back : TakesBack (grid_of 1 4) (at (1 ∷ 1 ∷ 1 ∷ 1 ∷ [])) (at (0 ∷ 0 ∷ 0 ∷ 0 ∷ [])) (λ v. true)
unfolding grid_of deg sum_below fires_from
four_back zero l e = (lit≤ tt, lit< tt)
four_back (suc zero) l e = (lit≤ tt, lit< tt)
four_back (suc (suc zero)) l e = (lit≤ tt, lit< tt)
four_back (suc (suc (suc zero))) l e = (lit≤ tt, lit< tt)
four_back (suc (suc (suc (suc v)))) l e = absurd (omega arith)

not_lowest_back : TakenBackAt (grid_of 1 4) (at (1 ∷ 1 ∷ 1 ∷ 1 ∷ [])) (at (0 ∷ 0 ∷ 0 ∷ 0 ∷ [])) 2 → ⊥
unfolding grid_of
not_lowest_back p = p.2.before 0 (lit< tt) (p.1.holds (λ v. true) four_back 0 (lit< tt) refl)

not_at_once : Rounds (grid_of 1 2) (at (1 ∷ 0 ∷ [])) (at (1 ∷ 1 ∷ [])) → ⊥
unfolding grid_of
not_at_once r = omega (arith, burning.rounds_once (grid_of 1 2) (at (1 ∷ 0 ∷ [])) (at (1 ∷ 1 ∷ [])) (at (1 ∷ 2 ∷ [])) r examples.burns 1 (lit< tt))

recurrent : Recurrent (grid_of 1 2) (at (1 ∷ 0 ∷ []))
unfolding grid_of deg sum_below fires_from
recurrent = (computed.still (grid_of 1 2) (at (1 ∷ 0 ∷ [])) refl, computed.burn (grid_of 1 2) (at (1 ∷ 0 ∷ [])) (at (1 ∷ 2 ∷ [])) refl refl)

not_recurrent : Recurrent (grid_of 1 2) (at (0 ∷ 0 ∷ [])) → ⊥
not_recurrent p =
    let all = p.1 in
    omega (arith, all.2 0 on_pair, burning.rounds_once (grid_of 1 2) (at (0 ∷ 0 ∷ [])) all.0 (at (0 ∷ 0 ∷ [])) all.1 examples.never_burns 0 on_pair)

unstill : Recurrent (grid_of 1 2) (at (4 ∷ 0 ∷ [])) → ⊥
unfolding grid_of deg sum_below fires_from
unstill p = p.0 0 (lit< tt) (lit≤ tt, lit≤ tt)

pub checks : Checks
unfolding grid_of deg sum_below fires_from
checks =
    record {
      at_degree = (lit≤ tt, lit≤ tt);
      below_degree = λ p. omega (arith, p.1);
      no_link = no_link;
      not_still = not_still;
      own_degree = own_degree;
      not_lowest = not_lowest;
      fires_twice = fires_twice;
      fires = fires;
      run = run;
      no_run = no_run;
      comes_in = (refl, refl);
      drains = (refl, refl);
      below_zero = computed.settles (grid_of 1 2) (at (0 ∷ 0 ∷ [])) (at (1 ∷ 5 ∷ [])) refl;
      unsettled = λ s. omega (arith, s 0 (lit< tt));
      no_end = no_end;
      not_following = not_following;
      least_settles = least_settles;
      least = settled_least;
      not_least = (
        computed.settles (grid_of 1 2) (at (3 ∷ 3 ∷ [])) (at (1 ∷ 1 ∷ [])) refl,
        λ l. omega (arith, l.least (at (0 ∷ 0 ∷ [])) none_settles 0 (lit< tt)),
      );
      settled = (settled, not_settled);
      by_chain = by_chain;
      no_chain = no_chain;
      linked_only = linked_only;
      back = examples.both_back;
      back_unfired = back_unfired;
      back_high = back_high;
      back_links = back_links;
      back_alone = back_alone;
      empty = empty;
      largest_back = λ l. back_high l.back;
      not_largest = not_largest;
      not_lowest_back = not_lowest_back;
      not_follows = not_follows;
      not_at_rest = λ p. not_still p.still;
      not_certified = not_certified;
      not_at_once = not_at_once;
      recurrent = recurrent;
      not_recurrent = not_recurrent;
      burns_unstill = (computed.burn (grid_of 1 2) (at (4 ∷ 0 ∷ [])) (at (1 ∷ 2 ∷ [])) refl refl, unstill);
      stays = (λ v l e. (examples.both_back v l e).1, not_stays);
      sum = computed.settled (grid_of 1 2) examples.sound_pair refl (λ v. at (1 ∷ 0 ∷ []) v + at (3 ∷ 3 ∷ []) v) (at (1 ∷ 1 ∷ [])) (at (1 ∷ 0 ∷ [])) (at (1 ∷ 2 ∷ [])) refl refl refl refl;
      full = full;
    }
  where
    settled_least : Least (grid_of 1 2) (at (3 ∷ 3 ∷ [])) (at (0 ∷ 0 ∷ []))
    settled_least = computed.least (grid_of 1 2) examples.sound_pair refl (at (3 ∷ 3 ∷ [])) (at (0 ∷ 0 ∷ [])) (at (3 ∷ 3 ∷ [])) (at (1 ∷ 1 ∷ [])) refl refl refl refl
