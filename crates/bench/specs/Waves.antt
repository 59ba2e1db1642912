-- A wave on its way, and why a run stopped.
use Rattle.std.specs.Prelude.{◌≡◌, ℕ, ◌+◌, ◌<◌, ◌≤◌, Bool, true, false, cond, List, length, nat_lt}
use Rattle.board.specs.Shape.{Shape, sum_below}
use Rattle.firing.specs.Firing.{at, Run}
use Rattle.firing.specs.Settling.{drained}
use Rattle.bench.specs.declared.Word.{Word}
use Rattle.bench.specs.declared.Word.TheVariants.{Still, Ceiling, Budget}

-- heights and counts on which firings are made: one of each for each site, and at most 1,000,000 grains
pub record Movable (s : Shape) (xs cs : List ℕ) : Type 0 where
  pub sized : length xs ≡ s.sites
  pub counted : length cs ≡ s.sites
  pub light : sum_below s.sites (at xs) ≤ 1000000

-- legal firings, w v of each site v, lead from heights h to h'; the counts grow by them, and d grains drain
pub record WaveDone (s : Shape) (h h' : ℕ → ℕ) (cs cs' : List ℕ) (w : ℕ → ℕ) (d : ℕ) : Type 0 where
  pub run : Run s h h' w
  pub counted : (u : ℕ) → u < s.sites → at cs' u ≡ at cs u + w u
  pub long : length cs' ≡ length cs
  pub drains : d ≡ drained s w

-- w at the sites below v
abbrev pub upto : (ℕ → ℕ) → ℕ → ℕ → ℕ
upto w v u = cond (nat_lt u v) (w u) 0

-- a wave that has come to v: whoever is still to fire stands as high as on entry
pub record Waving (s : Shape) (h : ℕ → ℕ) (cs : List ℕ) (w : ℕ → ℕ) (v : ℕ) (xs cs' : List ℕ) (d : ℕ) : Type 0 where
  pub done : WaveDone s h (at xs) cs cs' (upto w v) d
  pub higher : (u : ℕ) → v ≤ u → u < s.sites → h u ≤ at xs u

-- still, else at the ceiling, else at the budget
abbrev pub WordFor : Bool → Bool → Word → Type 0
WordFor true full r = r ≡ Still
WordFor false true r = r ≡ Ceiling
WordFor false false r = r ≡ Budget
