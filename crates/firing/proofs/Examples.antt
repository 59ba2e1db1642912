-- The worked results, computed.
use Rattle.std.proofs.Common.{ℕ, zero, suc, ◌+◌, ◌*◌, ◌<◌, true, [], ◌∷◌, refl, arith, lit<, lit≤}
use Rattle.board.specs.Shape.{Sound, deg, sum_below}
use Rattle.board.specs.Grids.{grid_of}
use Rattle.board.specs.GridsLemmas.{grid_sound}
use Rattle.firing.specs.Firing.{at, fires_from, CanFire, Still}
use Rattle.firing.specs.Settling.{Follows}
use Rattle.firing.specs.TakingBack.{TakesBack}
use Rattle.firing.specs.Burning.{Rounds}
use Rattle.firing.specs.Groups.{Identity}
use Rattle.firing.specs.Certificates.{Certified, EndFiresAt, TakenBackAt}
use Rattle.firing.specs.Worked.{Comes, Worked}
use Rattle.firing.proofs.Computed as computed

pub sound_one : Sound (grid_of 1 1)
sound_one = grid_sound 1 1 (lit≤ tt) (lit≤ tt) (lit≤ tt) (lit≤ tt)

pub sound_pair : Sound (grid_of 1 2)
sound_pair = grid_sound 1 2 (lit≤ tt) (lit≤ tt) (lit≤ tt) (lit≤ tt)

pub sound_square : Sound (grid_of 2 2)
sound_square = grid_sound 2 2 (lit≤ tt) (lit≤ tt) (lit≤ tt) (lit≤ tt)

one_five : Comes (grid_of 1 1) (at (5 ∷ [])) (at (1 ∷ [])) (at (1 ∷ [])) 4
unfolding grid_of deg sum_below fires_from
one_five = computed.comes (grid_of 1 1) sound_one refl (at (5 ∷ [])) (at (1 ∷ [])) (at (1 ∷ [])) (at (1 ∷ [])) refl refl refl refl 4 refl

one_three : Comes (grid_of 1 1) (at (3 ∷ [])) (at (0 ∷ [])) (at (3 ∷ [])) 0
unfolding grid_of deg sum_below fires_from
one_three = computed.comes (grid_of 1 1) sound_one refl (at (3 ∷ [])) (at (0 ∷ [])) (at (3 ∷ [])) (at (1 ∷ [])) refl refl refl refl 0 refl

pair : Comes (grid_of 1 2) (at (4 ∷ 3 ∷ [])) (at (1 ∷ 1 ∷ [])) (at (1 ∷ 0 ∷ [])) 6
unfolding grid_of deg sum_below fires_from
pair = computed.comes (grid_of 1 2) sound_pair refl (at (4 ∷ 3 ∷ [])) (at (1 ∷ 1 ∷ [])) (at (1 ∷ 0 ∷ [])) (at (1 ∷ 2 ∷ [])) refl refl refl refl 6 refl

pair_certified : Certified (grid_of 1 2) (at (4 ∷ 3 ∷ [])) (at (1 ∷ 1 ∷ [])) (at (1 ∷ 0 ∷ []))
unfolding grid_of deg sum_below fires_from
pair_certified = computed.certificate (grid_of 1 2) sound_pair refl (at (4 ∷ 3 ∷ [])) (at (1 ∷ 1 ∷ [])) (at (1 ∷ 0 ∷ [])) (at (1 ∷ 2 ∷ [])) refl refl refl refl

pair_fires : Follows (grid_of 1 2) (at (4 ∷ 3 ∷ [])) (at (1 ∷ 0 ∷ [])) (at (0 ∷ 4 ∷ [])) × EndFiresAt (grid_of 1 2) (at (0 ∷ 4 ∷ [])) 1
unfolding grid_of deg sum_below fires_from
pair_fires = (
  computed.follows (grid_of 1 2) (at (4 ∷ 3 ∷ [])) (at (1 ∷ 0 ∷ [])) (at (0 ∷ 4 ∷ [])) refl,
  record { on = lit< tt; holds = (lit≤ tt, lit≤ tt); before = before },
)
  where
    before : (u : ℕ) → u < 1 → CanFire (grid_of 1 2) (at (0 ∷ 4 ∷ [])) u → ⊥
    before zero l p = omega (arith, p.1)
    before (suc u) l p = omega arith

-- both sites of the pair can be taken back
pub both_back : TakesBack (grid_of 1 2) (at (1 ∷ 1 ∷ [])) (at (0 ∷ 0 ∷ [])) (λ v. true)
unfolding grid_of deg sum_below fires_from
both_back zero l e = (lit≤ tt, lit< tt)
both_back (suc zero) l e = (lit≤ tt, lit< tt)
both_back (suc (suc v)) l e = absurd (omega arith)

pair_back : Follows (grid_of 1 2) (at (3 ∷ 3 ∷ [])) (at (1 ∷ 1 ∷ [])) (at (0 ∷ 0 ∷ [])) × Still (grid_of 1 2) (at (0 ∷ 0 ∷ [])) × TakenBackAt (grid_of 1 2) (at (1 ∷ 1 ∷ [])) (at (0 ∷ 0 ∷ [])) 0
unfolding grid_of deg sum_below fires_from
pair_back = (
  computed.follows (grid_of 1 2) (at (3 ∷ 3 ∷ [])) (at (1 ∷ 1 ∷ [])) (at (0 ∷ 0 ∷ [])) refl,
  computed.still (grid_of 1 2) (at (0 ∷ 0 ∷ [])) refl,
  (λ v. true, record { back = both_back; holds = λ S takes v l e. refl }, record { on = lit< tt; holds = refl; before = λ u l p. omega arith }),
)

pub burns : Rounds (grid_of 1 2) (at (1 ∷ 0 ∷ [])) (at (1 ∷ 2 ∷ []))
unfolding grid_of deg sum_below fires_from
burns = computed.rounds (grid_of 1 2) (at (1 ∷ 0 ∷ [])) (at (1 ∷ 2 ∷ [])) refl

pub never_burns : Rounds (grid_of 1 2) (at (0 ∷ 0 ∷ [])) (at (0 ∷ 0 ∷ []))
unfolding grid_of deg sum_below fires_from
never_burns = computed.rounds (grid_of 1 2) (at (0 ∷ 0 ∷ [])) (at (0 ∷ 0 ∷ [])) refl

identity_one : Identity (grid_of 1 1) (at (0 ∷ []))
unfolding grid_of deg sum_below fires_from
identity_one =
    record {
      full = at (3 ∷ []);
      settled = at (2 ∷ []);
      difference = at (4 ∷ []);
      is_full = λ v l. computed.equal 1 (λ v. at (3 ∷ []) v + 1) (fires_from (grid_of 1 1)) refl v l;
      is_settled = computed.settled (grid_of 1 1) sound_one refl (λ v. 2 * at (3 ∷ []) v) (at (1 ∷ [])) (at (2 ∷ [])) (at (1 ∷ [])) refl refl refl refl;
      is_difference = λ v l. computed.equal 1 (λ v. at (4 ∷ []) v + at (2 ∷ []) v) (λ v. 2 * at (3 ∷ []) v) refl v l;
      is = computed.settled (grid_of 1 1) sound_one refl (at (4 ∷ [])) (at (1 ∷ [])) (at (0 ∷ [])) (at (1 ∷ [])) refl refl refl refl;
    }

identity_pair : Identity (grid_of 1 2) (at (3 ∷ 3 ∷ []))
unfolding grid_of deg sum_below fires_from
identity_pair =
    let three = at (3 ∷ 3 ∷ []) in
    let ones = at (1 ∷ 1 ∷ []) in
    record {
      full = three;
      settled = three;
      difference = three;
      is_full = λ v l. computed.equal 2 (λ v. three v + 1) (fires_from (grid_of 1 2)) refl v l;
      is_settled = computed.settled (grid_of 1 2) sound_pair refl (λ v. 2 * three v) ones three ones refl refl refl refl;
      is_difference = λ v l. computed.equal 2 (λ v. three v + three v) (λ v. 2 * three v) refl v l;
      is = computed.settled (grid_of 1 2) sound_pair refl three (at (0 ∷ 0 ∷ [])) three ones refl refl refl refl;
    }

identity_square : Identity (grid_of 2 2) (at (2 ∷ 2 ∷ 2 ∷ 2 ∷ []))
unfolding grid_of deg sum_below fires_from
identity_square =
    let three = at (3 ∷ 3 ∷ 3 ∷ 3 ∷ []) in
    let two = at (2 ∷ 2 ∷ 2 ∷ 2 ∷ []) in
    let four = at (4 ∷ 4 ∷ 4 ∷ 4 ∷ []) in
    let ones = at (1 ∷ 1 ∷ 1 ∷ 1 ∷ []) in
    record {
      full = three;
      settled = two;
      difference = four;
      is_full = λ v l. computed.equal 4 (λ v. three v + 1) (fires_from (grid_of 2 2)) refl v l;
      is_settled = computed.settled (grid_of 2 2) sound_square refl (λ v. 2 * three v) two two ones refl refl refl refl;
      is_difference = λ v l. computed.equal 4 (λ v. four v + two v) (λ v. 2 * three v) refl v l;
      is = computed.settled (grid_of 2 2) sound_square refl four ones two ones refl refl refl refl;
    }

pub worked : Worked
worked =
    record {
      one_five = one_five;
      one_three = one_three;
      pair = pair;
      pair_certified = pair_certified;
      pair_fires = pair_fires;
      pair_back = pair_back;
      burns = burns;
      never_burns = never_burns;
      identity_one = identity_one;
      identity_pair = identity_pair;
      identity_square = identity_square;
    }
