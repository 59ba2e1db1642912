-- What a bench holds, as lists and numbers.
use Rattle.std.specs.Prelude.{◌≡◌, ℕ, ◌+◌, ◌-◌, List, length, Some, vec_items, Option, slice_set}
use Rattle.board.specs.Shape.{sum_below}
use Rattle.firing.specs.Firing.{at}
use Rattle.bench.specs.declared.Phase.{Phase}
use Rattle.bench.specs.declared.Phase.TheVariants.{Open}
use Rattle.bench.specs.declared.GrainDrop.{GrainDrop}
use Rattle.bench.specs.declared.Ticket.{Ticket}
use Rattle.bench.specs.declared.Record.{Record}
use Rattle.bench.specs.declared.Records.{Records}
use Rattle.bench.specs.declared.Bench.{Bench}

pub record State : Type 0 where
  -- each site's height
  pub heights : List ℕ
  -- each site's firings since creation
  pub counts : List ℕ
  -- those counts at the avalanche's opening
  pub opened : List ℕ
  pub phase : Phase
  -- the avalanche's number, and its drop: none for avalanche 0
  pub number : ℕ
  pub last : Option GrainDrop
  -- the grains of the start and of all drops
  pub grains : ℕ
  -- the grains drained in all, and at the avalanche's opening
  pub drained : ℕ
  pub drained_before : ℕ
  -- all firings, and the ceiling on them
  pub fired : ℕ
  pub ceiling : ℕ

abbrev pub state : Bench → State
state b = record {
  heights = vec_items b.heights;
  counts = vec_items b.counts;
  opened = vec_items b.opened;
  phase = b.phase;
  number = b.number;
  last = b.last;
  grains = b.grains;
  drained = b.drained;
  drained_before = b.drained_before;
  fired = b.fired;
  ceiling = b.ceiling;
}

-- a ticket's avalanche number
abbrev pub ticket_number : Ticket → ℕ
ticket_number t = t.number

-- the entries of record memory, and how many of them are records
abbrev pub entries : Records → List Record
entries r = r.slots.now

abbrev pub held : Records → ℕ
held r = r.held

-- the firings of v in this avalanche; no count is below that of the opening
abbrev pub since : State → ℕ → ℕ
since x v = at x.counts v - at x.opened v

-- the firings left to the ceiling
abbrev pub left : State → ℕ
left x = x.ceiling - x.fired

-- grains are neither made nor lost: those of start and drops lie on the sites or are drained
abbrev pub Conserved : State → Type 0
Conserved x = sum_below (length x.heights) (at x.heights) + x.drained ≡ x.grains

-- x in another phase
abbrev pub phased : State → Phase → State
phased x p = record {
  heights = x.heights;
  counts = x.counts;
  opened = x.opened;
  phase = p;
  number = x.number;
  last = x.last;
  grains = x.grains;
  drained = x.drained;
  drained_before = x.drained_before;
  fired = x.fired;
  ceiling = x.ceiling;
}

-- x after a drop: the grains lie on its site, and a new avalanche is open
abbrev pub dropped : State → GrainDrop → State
dropped x d = record {
  heights = slice_set x.heights d.site (at x.heights d.site + d.grains);
  counts = x.counts;
  opened = x.counts;
  phase = Open;
  number = x.number + 1;
  last = Some d;
  grains = x.grains + d.grains;
  drained = x.drained;
  drained_before = x.drained;
  fired = x.fired;
  ceiling = x.ceiling;
}
