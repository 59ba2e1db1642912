-- Checks on the definitions: an example for each that would fail if it said something else.
use Rattle.std.specs.Prelude.{◌≡◌, ℕ, true, [], ◌∷◌, nat_eq}
use Rattle.board.specs.Shape.{Shape}
use Rattle.board.specs.declared.link.End.TheVariants.{Site, Drain}
use Rattle.board.specs.Grids.{grid_of}
use Rattle.board.specs.Lists.{bare, linked}
use Rattle.firing.specs.Firing.{at, CanFire, Still, Fires, Run, Lowest}
use Rattle.firing.specs.Settling.{inflow, drained, Settles, Follows, Least, Settled}
use Rattle.firing.specs.Reaching.{Reaches, AllReach, AllLinked}
use Rattle.firing.specs.Certificates.{Certified, NotFollowingAt, TakenBackAt}
use Rattle.firing.specs.TakingBack.{TakesBack, Empty, Largest}
use Rattle.firing.specs.Burning.{Rounds, AllBurn, Recurrent, Stays}
use Rattle.firing.specs.Groups.{Sum, Full}

-- two sites with two links between them
abbrev pub island : Shape
island = linked (bare 2) (record { site = 0; other = Site 1; count = 2 })

-- the same, and a link from 1 to the drain
abbrev pub pier : Shape
pier = linked island (record { site = 1; other = Drain; count = 1 })

-- two sites with no link between them, and a link from 1 to the drain
abbrev pub shore : Shape
shore = linked (bare 2) (record { site = 1; other = Drain; count = 1 })

pub record Checks : Type 0 where
  -- a site fires at its degree, not only above it; not below; never without a link
  pub at_degree : CanFire (grid_of 1 1) (at (4 ∷ [])) 0
  pub below_degree : CanFire (grid_of 1 1) (at (3 ∷ [])) 0 → ⊥
  pub no_link : Still (bare 1) (at (7 ∷ []))
  pub not_still : Still (grid_of 1 2) (at (0 ∷ 4 ∷ [])) → ⊥
  -- its own degree: 2 and 3 on the pier
  pub own_degree : CanFire pier (at (2 ∷ 2 ∷ [])) 0 × (CanFire pier (at (2 ∷ 2 ∷ [])) 1 → ⊥)
  -- the lowest site that can fire, and no other that can
  pub not_lowest : Lowest (grid_of 1 2) (CanFire (grid_of 1 2) (at (4 ∷ 4 ∷ []))) 1 → ⊥
  -- a firing gives a neighbour as many grains as links, and other sites nothing
  pub fires_twice : Fires pier 1 (at (0 ∷ 3 ∷ [])) (at (2 ∷ 0 ∷ []))
  pub fires : Fires (grid_of 1 3) 0 (at (4 ∷ 0 ∷ 0 ∷ [])) (at (0 ∷ 1 ∷ 0 ∷ []))
  -- a run may go on where an earlier firing made it legal, and only there
  pub run : Run (grid_of 1 2) (at (4 ∷ 3 ∷ [])) (at (1 ∷ 0 ∷ [])) (at (1 ∷ 1 ∷ []))
  pub no_run : (h : ℕ → ℕ) → Run (grid_of 1 2) (at (3 ∷ 3 ∷ [])) h (at (1 ∷ 1 ∷ [])) → ⊥
  -- what comes in is counted by the neighbours' firings, what drains by the site's own drain links
  pub comes_in : (inflow (grid_of 1 3) (at (1 ∷ 2 ∷ 4 ∷ [])) 0 ≡ 2) × (inflow (grid_of 1 3) (at (1 ∷ 2 ∷ 4 ∷ [])) 1 ≡ 5)
  pub drains : (drained (grid_of 1 3) (at (1 ∷ 0 ∷ 0 ∷ [])) ≡ 3) × (drained (grid_of 1 3) (at (0 ∷ 1 ∷ 0 ∷ [])) ≡ 2)
  -- a list settles also where a value is less than 0, as −19 at site 1; nothing is cut off at 0, as −4 at site 0 before 5 come in
  pub below_zero : Settles (grid_of 1 2) (at (0 ∷ 0 ∷ [])) (at (1 ∷ 5 ∷ []))
  pub unsettled : Settles (grid_of 1 2) (at (4 ∷ 3 ∷ [])) (at (0 ∷ 0 ∷ [])) → ⊥
  -- no heights follow there, since none is less than 0
  pub no_end : (h : ℕ → ℕ) → Follows (grid_of 1 2) (at (0 ∷ 0 ∷ [])) (at (1 ∷ 5 ∷ [])) h → ⊥
  pub not_following : NotFollowingAt (grid_of 1 2) (at (0 ∷ 0 ∷ [])) (at (0 ∷ 5 ∷ [])) (at (5 ∷ 0 ∷ [])) 1
  -- a least list settles, and of two lists that settle it is the smaller
  pub least_settles : Least (grid_of 1 2) (at (4 ∷ 3 ∷ [])) (at (0 ∷ 0 ∷ [])) → ⊥
  pub least : Least (grid_of 1 2) (at (3 ∷ 3 ∷ [])) (at (0 ∷ 0 ∷ []))
  pub not_least : Settles (grid_of 1 2) (at (3 ∷ 3 ∷ [])) (at (1 ∷ 1 ∷ [])) × (Least (grid_of 1 2) (at (3 ∷ 3 ∷ [])) (at (1 ∷ 1 ∷ [])) → ⊥)
  -- so that still heights are settled already, and stay as they are
  pub settled : Settled (grid_of 1 2) (at (3 ∷ 3 ∷ [])) (at (3 ∷ 3 ∷ [])) × (Settled (grid_of 1 2) (at (3 ∷ 3 ∷ [])) (at (0 ∷ 0 ∷ [])) → ⊥)
  -- a chain of links leads to the drain, or there is none
  pub by_chain : Reaches pier 0
  pub no_chain : (Reaches island 0 → ⊥) × (Reaches shore 0 → ⊥)
  pub linked_only : AllReach pier × AllLinked island × (AllReach island → ⊥) × (AllLinked shore → ⊥)
  -- only what has fired is taken back, only where it is lower than its links, and only links into the set count
  pub back : TakesBack (grid_of 1 2) (at (1 ∷ 1 ∷ [])) (at (0 ∷ 0 ∷ [])) (λ v. true)
  pub back_unfired : TakesBack (grid_of 1 2) (at (1 ∷ 0 ∷ [])) (at (0 ∷ 0 ∷ [])) (λ v. true) → ⊥
  pub back_high : TakesBack (grid_of 1 2) (at (1 ∷ 1 ∷ [])) (at (1 ∷ 0 ∷ [])) (λ v. true) → ⊥
  pub back_links : TakesBack pier (at (1 ∷ 1 ∷ [])) (at (1 ∷ 1 ∷ [])) (λ v. true)
  pub back_alone : TakesBack (grid_of 1 2) (at (1 ∷ 1 ∷ [])) (at (0 ∷ 0 ∷ [])) (λ v. nat_eq v 0) → ⊥
  -- a set is empty where it has no site of the board
  pub empty : Empty (grid_of 1 2) (λ v. nat_eq v 9) × (Empty (grid_of 1 2) (λ v. nat_eq v 1) → ⊥)
  -- a largest set can be taken back, and is none of the smaller ones
  pub largest_back : Largest (grid_of 1 2) (at (1 ∷ 1 ∷ [])) (at (1 ∷ 0 ∷ [])) (λ v. true) → ⊥
  pub not_largest : Largest (grid_of 1 2) (at (1 ∷ 1 ∷ [])) (at (0 ∷ 0 ∷ [])) (λ v. nat_eq v 9) → ⊥
  -- the place is in the largest set: on 1×4 the sites 2 and 3 alone can be taken back too
  pub not_lowest_back : TakenBackAt (grid_of 1 4) (at (1 ∷ 1 ∷ 1 ∷ 1 ∷ [])) (at (0 ∷ 0 ∷ 0 ∷ 0 ∷ [])) 2 → ⊥
  -- a certificate's end follows, is still, and leaves nothing to take back
  pub not_follows : Certified (grid_of 1 2) (at (0 ∷ 0 ∷ [])) (at (0 ∷ 0 ∷ [])) (at (1 ∷ 0 ∷ [])) → ⊥
  pub not_at_rest : Certified (grid_of 1 2) (at (4 ∷ 3 ∷ [])) (at (1 ∷ 0 ∷ [])) (at (0 ∷ 4 ∷ [])) → ⊥
  pub not_certified : Certified (grid_of 1 2) (at (3 ∷ 3 ∷ [])) (at (1 ∷ 1 ∷ [])) (at (0 ∷ 0 ∷ [])) → ⊥
  -- what burns in a round helps others only in the next, and burns once
  pub not_at_once : Rounds (grid_of 1 2) (at (1 ∷ 0 ∷ [])) (at (1 ∷ 1 ∷ [])) → ⊥
  -- recurrent heights burn, and are still
  pub recurrent : Recurrent (grid_of 1 2) (at (1 ∷ 0 ∷ []))
  pub not_recurrent : Recurrent (grid_of 1 2) (at (0 ∷ 0 ∷ [])) → ⊥
  pub burns_unstill : AllBurn (grid_of 1 2) (at (4 ∷ 0 ∷ [])) × (Recurrent (grid_of 1 2) (at (4 ∷ 0 ∷ [])) → ⊥)
  pub stays : Stays (grid_of 1 2) (at (0 ∷ 0 ∷ [])) (λ v. true) × (Stays (grid_of 1 2) (at (1 ∷ 0 ∷ [])) (λ v. true) → ⊥)
  -- the identity of the pair, added, changes nothing; M is one below each degree
  pub sum : Sum (grid_of 1 2) (at (1 ∷ 0 ∷ [])) (at (3 ∷ 3 ∷ [])) (at (1 ∷ 0 ∷ []))
  pub full : Full pier (at (1 ∷ 2 ∷ []))
