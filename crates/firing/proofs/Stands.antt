-- The laws of the specs, each under its name there.
use Rattle.std.proofs.Common.{arith}
use Rattle.firing.specs.Firing.{fires_from}
use Rattle.firing.specs.Laws.{RunFollows, Conserves, LeastAction, FewerSettle, RunLeast, RunsAgree, MinSettles, LeastOnce, ReachLinked, SettlingExists, LeastExists, SettledOnce, IdentityOnce}
use Rattle.firing.specs.SetLaws.{PlainHeights, CertificateLaw, UnionBack, LargestBack, RoundsOnce, BurningLaw}
use Rattle.firing.proofs.Action as action
use Rattle.firing.proofs.Back as taking
use Rattle.firing.proofs.Reach as reach
use Rattle.firing.proofs.Exist as exist
use Rattle.firing.proofs.Rounds as burning
use Rattle.firing.proofs.Group as group

pub run_follows : RunFollows
run_follows b sound c h w r = action.run_follows b sound c r

pub conserves : Conserves
conserves b sound = action.follows_conserves b

pub least_action : LeastAction
least_action b sound c h w w' r settles = action.least_action b sound c w' settles r

pub fewer_settle : FewerSettle
fewer_settle b sound = action.settles_fewer b

pub run_least : RunLeast
run_least = action.run_least

pub runs_agree : RunsAgree
runs_agree b sound linked c h w h' w' r still r' still' =
    let same = action.least_once b c w w' (action.run_least b sound linked c h w r still) (action.run_least b sound linked c h' w' r' still') in
    (same, action.follows_once b c h w h' w' (action.run_follows b sound c r) (action.run_follows b sound c r') same)

pub min_settles : MinSettles
min_settles b sound = action.settles_min b

pub least_once : LeastOnce
least_once b sound = action.least_once b

pub reach_linked : ReachLinked
reach_linked b sound = reach.reach_linked b

pub settling_exists : SettlingExists
settling_exists = exist.some_settles

pub least_exists : LeastExists
least_exists = exist.least_exists

pub settled_once : SettledOnce
settled_once = exist.settled_once

pub plain_heights : PlainHeights
unfolding fires_from
plain_heights b sound h S v = ((λ p. omega arith, λ p. omega arith), (λ p. omega arith, λ p. omega arith))

pub certificate_law : CertificateLaw
certificate_law b sound linked c h w follows still = (
  λ least. taking.least_no_back b sound linked c h w follows still least.least,
  λ none. taking.certified b sound linked c h w follows still none,
)

pub union_back : UnionBack
union_back b sound = taking.union_back b

pub largest_back : LargestBack
largest_back b sound = taking.largest_back b

pub rounds_once : RoundsOnce
rounds_once b sound h = (burning.round_of b h, burning.rounds_exist b h, λ r rounds. burning.rounds_once b h (burning.round_of b h) r (burning.rounds_exist b h) rounds)

pub burning_law : BurningLaw
burning_law b sound h = (burning.burn_empty b h, burning.empty_burn b h)

pub identity_once : IdentityOnce
identity_once b sound all_reach =
    let e = group.identity_exists b sound all_reach in (e.0, e.1, λ e' i. group.identity_same b e.0 e' e.1 i)
