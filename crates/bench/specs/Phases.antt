-- Phases: which event a phase takes, and the phase after it.
use Rattle.std.specs.Prelude.{ℕ, List, Some, None, codes, Option}
use Rattle.bench.specs.declared.Phase.{Phase}
use Rattle.bench.specs.declared.Phase.TheVariants.{Resting, Open, Shelved}
use Rattle.bench.specs.declared.phases.Event.{Event}
use Rattle.bench.specs.declared.phases.Event.TheVariants.{Resume, Drop, Fire, Close, Shelve}
use Rattle.bench.specs.declared.Word.{Word}
use Rattle.bench.specs.declared.Word.TheVariants.{Still, Ceiling, Budget}

-- a phase's number
abbrev pub phase_number : Phase → ℕ
phase_number Resting = 0
phase_number Open = 1
phase_number Shelved = 2

-- a phase's name
abbrev pub phase_name : Phase → List ℕ
phase_name Resting = codes "resting"
phase_name Open = codes "open"
phase_name Shelved = codes "shelved"

-- a word's number
abbrev pub word_number : Word → ℕ
word_number Still = 0
word_number Ceiling = 1
word_number Budget = 2

-- a word's name
abbrev pub word_name : Word → List ℕ
word_name Still = codes "still"
word_name Ceiling = codes "ceiling"
word_name Budget = codes "budget"

-- the phase after an event, or none: the event has another phase
abbrev pub after : Phase → Event → Option Phase
after Resting Resume = None
after Resting Drop = Some Open
after Resting Fire = None
after Resting Close = None
after Resting Shelve = None
after Open Resume = None
after Open Drop = None
after Open Fire = Some Open
after Open Close = Some Resting
after Open Shelve = Some Shelved
after Shelved Resume = Some Open
after Shelved Drop = None
after Shelved Fire = None
after Shelved Close = None
after Shelved Shelve = None
