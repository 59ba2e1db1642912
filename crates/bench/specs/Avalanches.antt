-- The law of least count: what heights, counts and records of a bench are by its start and its drops, for a bench whose calls are all given its own board.
use Rattle.std.specs.Prelude.{◌≡◌, ℕ, ◌+◌, cond, List, [], ◌∷◌, length, Some, None, Option, ◌==◌, nat_lt}
use Rattle.board.specs.Shape.{Shape, sum_below}
use Rattle.firing.specs.Firing.{at, Still, Run}
use Rattle.firing.specs.Settling.{drained, Settles, Follows, AtMost, Same, Least, Settled}
use Rattle.firing.specs.Reaching.{AllReach}
use Rattle.bench.specs.declared.Phase.TheVariants.{Resting}
use Rattle.bench.specs.declared.GrainDrop.{GrainDrop}
use Rattle.bench.specs.declared.Record.{Record}
use Rattle.bench.specs.States.{State, since}

-- the grains that a drop puts on v
abbrev pub drop_on : GrainDrop → ℕ → ℕ
drop_on d v = cond (v == d.site) d.grains 0

-- the start with all drops; of drops the newest comes first
abbrev pub loaded : (ℕ → ℕ) → List GrainDrop → ℕ → ℕ
loaded start [] v = start v
loaded start (d ∷ ds) v = loaded start ds v + drop_on d v

-- the newest drop
abbrev pub newest : List GrainDrop → Option GrainDrop
newest [] = None
newest (d ∷ ds) = Some d

-- o are the opening heights of the newest avalanche: settle(start with all earlier drops), with its own drop added; of avalanche 0, the start
abbrev pub Opening : Shape → (ℕ → ℕ) → List GrainDrop → (ℕ → ℕ) → Type 0
Opening s start [] o = Same s o start
Opening s start (d ∷ ds) o = (e : ℕ → ℕ) × Settled s (loaded start ds) e × Same s o (λ v. e v + drop_on d v)

-- w are the counts at that opening: the least that settle the start with all earlier drops; of avalanche 0, none
abbrev pub Before : Shape → (ℕ → ℕ) → List GrainDrop → (ℕ → ℕ) → Type 0
Before s start [] w = Same s w (λ v. 0)
Before s start (d ∷ ds) w = Least s (loaded start ds) w

-- the sites that fire at all
abbrev pub firing_sites : Shape → (ℕ → ℕ) → ℕ
firing_sites s w = sum_below s.sites (λ v. cond (nat_lt 0 (w v)) 1 0)

-- the bench stands under the law for this board, this start and these accepted drops
pub record Law (s : Shape) (start : ℕ → ℕ) (ds : List GrainDrop) (x : State) : Type 0 where
  pub reach : AllReach s
  pub sized : length x.heights ≡ s.sites
  pub grains : x.grains ≡ sum_below s.sites (loaded start ds)
  -- the heights follow from the start with all drops by the counts, and no list of counts that settles those is less anywhere
  pub follows : Follows s (loaded start ds) (at x.counts) (at x.heights)
  pub never_more : (w : ℕ → ℕ) → Settles s (loaded start ds) w → AtMost s (at x.counts) w
  pub drains : x.drained ≡ drained s (at x.counts)
  -- the avalanche: its opening, and legal firings since, each counted
  pub before : Before s start ds (at x.opened)
  pub drains_before : x.drained_before ≡ drained s (at x.opened)
  pub grown : AtMost s (at x.opened) (at x.counts)
  pub avalanche : (o : ℕ → ℕ) × Opening s start ds o × Run s o (at x.heights) (since x)
  pub rest : x.phase ≡ Resting → Still s (at x.heights)
  pub number : x.number ≡ length ds
  pub last : x.last ≡ newest ds

-- a bench that stood under the law at x does at y, with the same start and drops
abbrev pub KeepsLaw : Shape → State → State → Type 0
KeepsLaw s x y = (start : ℕ → ℕ) (ds : List GrainDrop) → Law s start ds x → Law s start ds y

-- a record of the avalanche that the newest of these drops opened: its figures are those of the least counts that settle its opening heights
pub record Recorded (s : Shape) (start : ℕ → ℕ) (ds : List GrainDrop) (r : Record) : Type 0 where
  pub opening : ℕ → ℕ
  pub firings : ℕ → ℕ
  pub opens : Opening s start ds opening
  pub least : Least s opening firings
  pub size : r.size ≡ sum_below s.sites firings
  pub area : r.area ≡ firing_sites s firings
  pub drains : r.drained ≡ drained s firings
  pub number : r.number ≡ length ds
  pub dropped : r.dropped ≡ newest ds
