use Rattle.std.specs.Prelude.{◌≡◌, ℕ, ◌<◌, Bool, true, false, List, [], ◌∷◌, ◌++◌, length, Some, None, Option}
use Rattle.waiting.specs.declared.WaitingList.{WaitingList}
use Rattle.waiting.specs.Slots.{waiting}

-- what waits, the first first
abbrev pub waits : {T : Type 0} → WaitingList T → List T
waits q = waiting q.slots.now q.head q.len

-- how many can wait
abbrev pub room : {T : Type 0} → WaitingList T → ℕ
room q = length q.slots.now

-- true: there was room, and x is last now. false: as many wait as can, and no entry changes
abbrev pub Pushed : {T : Type 0} → WaitingList T → T → WaitingList T → Bool → Type 0
Pushed q x q' true = (length (waits q) < room q) × (waits q' ≡ waits q ++ x ∷ [])
Pushed q x q' false = (length (waits q) ≡ room q) × (waits q' ≡ waits q)

abbrev pub Popped : {T : Type 0} → List T → List T → Option T → Type 0
Popped w w' None = (w ≡ []) × (w' ≡ [])
Popped w w' (Some x) = w ≡ x ∷ w'
