-- What it does to have sites wait: a site is had wait if its mark reads `idle`, and its mark reads 1 then.
use Rattle.std.specs.Prelude.{◌≡◌, ◌≢◌, ℕ, ◌+◌, ◌<◌, ◌≤◌, ◌⊎◌, List, [], ◌∷◌, ◌++◌, length, Some, None, Option, slice_set}
use Rattle.settling.specs.Searches.{mark}

-- of the sites of P those whose mark read `idle` are marked 1 now, and no other mark has changed
pub record Turned (P : ℕ → Type 0) (idle : ℕ) (fs fs' : List ℕ) : Type 0 where
  pub all : (u : ℕ) → P u → u < length fs → mark fs u ≡ idle → mark fs' u ≡ 1
  pub only : (u : ℕ) → (mark fs' u ≡ mark fs u) ⊎ ((mark fs u ≡ idle) × (mark fs' u ≡ 1) × P u)

-- entries of sites from lo on and below hi, the lowest first
abbrev pub Rising : {T : Type 0} → (T → ℕ) → ℕ → ℕ → List T → Type 0
Rising site lo hi [] = lo ≤ hi
Rising site lo hi (e ∷ es) = (lo ≤ site e) × Rising site (site e + 1) hi es

-- behind the entries es such entries have come
pub record Joined {T : Type 0} (site : T → ℕ) (lo hi : ℕ) (es es' : List T) : Type 0 where
  pub more : List T
  pub is : es' ≡ es ++ more
  pub rising : Rising site lo hi more

-- a mark of a site that does not wait
abbrev pub Rests : ℕ → Type 0
Rests x = (x ≡ 0) ⊎ (x ≡ 2)

-- the first entry is taken, and the mark of its site is x now; none where none waits, or x is no mark of a site that rests
abbrev pub Taken : {T : Type 0} → (T → ℕ) → ℕ → List T → List ℕ → List T → List ℕ → Option T → Type 0
Taken site x es fs es' fs' None = ((es ≡ []) ⊎ (Rests x → ⊥)) × (es' ≡ es) × (fs' ≡ fs)
Taken site x es fs es' fs' (Some e) = Rests x × (es ≡ e ∷ es') × (fs' ≡ slice_set fs (site e) x)

-- the mark of v is x now, if v is a site that rests and x the mark of one; no other mark changes
pub record Rested (v x : ℕ) (fs fs' : List ℕ) : Type 0 where
  pub here : v < length fs → mark fs v ≢ 1 → Rests x → fs' ≡ slice_set fs v x
  pub kept : (v < length fs → mark fs v ≢ 1 → Rests x → ⊥) → fs' ≡ fs
