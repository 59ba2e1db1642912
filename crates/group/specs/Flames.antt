-- What burning keeps while it goes on: marks of sites (0: unburnt; 1: burnt, and waits; 2: burnt, its links taken from its neighbours), and numbers of sites (unburnt: links to what is not marked 2; burnt: the round).
use Rattle.std.specs.Prelude.{◌≡◌, ℕ, suc, ◌+◌, ◌<◌, ◌≤◌, Bool, ◌⊎◌, List, [], ◌∷◌, ◌≢◌, nat_lt}
use Rattle.firing.specs.Firing.{at}
use Rattle.board.specs.Shape.{Shape, sum_below}
use Rattle.firing.specs.TakingBack.{links_into}
use Rattle.firing.specs.Burning.{unburnt, Rounds}
use Rattle.settling.specs.Searches.{mark, Queued}
use Rattle.group.specs.declared.burning.Burnt.{Burnt}

-- the site and the round of an entry
abbrev pub site_of : Burnt → ℕ
site_of e = e.site

-- each entry has the round of its site
abbrev pub Noted : (ℕ → ℕ) → List Burnt → Type 0
Noted ρ [] = Unit {0}
Noted ρ (e ∷ es) = (e.round ≡ ρ e.site) × Noted ρ es

-- entries of round r + 1
abbrev pub Late : ℕ → List Burnt → Type 0
Late r [] = Unit {0}
Late r (e ∷ es) = (e.round ≡ r + 1) × Late r es

-- entries of round r, then entries of round r + 1
abbrev pub Turns : ℕ → List Burnt → Type 0
Turns r [] = Unit {0}
Turns r (e ∷ es) = ((e.round ≡ r) × Turns r es) ⊎ ((e.round ≡ r + 1) × Late r es)

-- the sites that still count as unburnt
abbrev pub undone : List ℕ → ℕ → Bool
undone fs u = nat_lt (mark fs u) 2

-- in round r: the rounds ρ so far are right, none is missing before r + 1, and none is above that
pub record Right (b : Shape) (h : ℕ → ℕ) (r : ℕ) (fs : List ℕ) (ρ : ℕ → ℕ) : Type 0 where
  pub free : (u : ℕ) → u < b.sites → mark fs u ≡ 0 → ρ u ≡ 0
  pub some : (u : ℕ) → u < b.sites → 1 ≤ mark fs u → 1 ≤ ρ u
  pub most : (u : ℕ) → u < b.sites → ρ u ≤ r + 1
  pub past : (u : ℕ) → u < b.sites → mark fs u ≡ 2 → ρ u ≤ r
  pub sound : (v : ℕ) → v < b.sites → (k : ℕ) → ρ v ≡ suc k → links_into b (unburnt ρ k) v ≤ h v
  pub late : (v : ℕ) → v < b.sites → (k : ℕ) → suc k < ρ v → h v < links_into b (unburnt ρ k) v
  pub later : (v : ℕ) → v < b.sites → mark fs v ≡ 0 → (k : ℕ) → k < r → h v < links_into b (unburnt ρ k) v

-- the same of lent memory: the waiting entries es, the marks fs, the numbers xs
pub record Burning (b : Shape) (h : ℕ → ℕ) (r : ℕ) (es : List Burnt) (fs xs : List ℕ) : Type 0 where
  pub rounds : ℕ → ℕ
  pub right : Right b h r fs rounds
  pub kept : (u : ℕ) → u < b.sites → 1 ≤ mark fs u → at xs u ≡ rounds u
  pub queued : Queued site_of b.sites es fs
  pub noted : Noted rounds es
  pub turns : Turns r es
  pub few : r ≤ sum_below b.sites (mark fs)

-- the number of v, if unburnt, is its links to what still counts as unburnt and k more, and it is not as high
pub record Cool (b : Shape) (h : ℕ → ℕ) (fs xs : List ℕ) (v k : ℕ) : Type 0 where
  pub count : mark fs v ≡ 0 → at xs v ≡ links_into b (undone fs) v + k
  pub low : mark fs v ≡ 0 → h v < at xs v

-- between two visits: all that is unburnt is cool
pub record Steady (b : Shape) (h : ℕ → ℕ) (r : ℕ) (es : List Burnt) (fs xs : List ℕ) : Type 0 where
  pub burning : Burning b h r es fs xs
  pub cool : (u : ℕ) → u < b.sites → Cool b h fs xs u 0

-- a visit of v, in which the links of v to sites below j are taken from their numbers
pub record Visit (b : Shape) (h : ℕ → ℕ) (r v j : ℕ) (es : List Burnt) (fs xs : List ℕ) : Type 0 where
  pub burning : Burning b h r es fs xs
  pub near : (u : ℕ) → u < b.sites → u < j → Cool b h fs xs u 0
  pub far : (u : ℕ) → u < b.sites → j ≤ u → Cool b h fs xs u (b.m u v)

-- the first round, in which the sites below i are looked at
pub record Lighting (b : Shape) (h : ℕ → ℕ) (i : ℕ) (es : List Burnt) (fs xs : List ℕ) : Type 0 where
  pub burning : Burning b h 0 es fs xs
  pub near : (u : ℕ) → u < b.sites → u < i → Cool b h fs xs u 0
  pub far : (u : ℕ) → u < b.sites → i ≤ u → (mark fs u ≡ 0) × (at xs u ≡ links_into b (undone fs) u)

-- no mark is lowered
abbrev pub Up : List ℕ → List ℕ → Type 0
Up fs fs' = (u : ℕ) → mark fs u ≤ mark fs' u

-- u was held against its height: it burns now, or is cool; nothing else has changed
pub record Held (b : Shape) (h : ℕ → ℕ) (r u : ℕ) (fs xs : List ℕ) (es' : List Burnt) (fs' xs' : List ℕ) : Type 0 where
  pub burning : Burning b h r es' fs' xs'
  pub marks : (w : ℕ) → (w ≢ u) → mark fs' w ≡ mark fs w
  pub numbers : (w : ℕ) → (w ≢ u) → at xs' w ≡ at xs w
  pub here : (mark fs' u ≡ 1) ⊎ ((mark fs' u ≡ 0) × (at xs' u ≡ at xs u) × (h u < at xs u))

-- before the first round: nothing burns, and each number is the links to all sites
pub record Fresh (b : Shape) (fs xs : List ℕ) : Type 0 where
  pub unmarked : (u : ℕ) → u < b.sites → mark fs u ≡ 0
  pub all : (u : ℕ) → u < b.sites → at xs u ≡ links_into b (undone fs) u

-- the numbers of unburnt sites are made 0, those of burnt sites stay
pub record Cleared (n : ℕ) (fs xs xs' : List ℕ) : Type 0 where
  pub zero_at : (u : ℕ) → u < n → mark fs u ≡ 0 → at xs' u ≡ 0
  pub kept : (u : ℕ) → u < n → 1 ≤ mark fs u → at xs' u ≡ at xs u

-- nothing waits any more: the rounds of burnt sites are right, and no other site burns
pub record Ended (b : Shape) (h : ℕ → ℕ) (fs xs : List ℕ) : Type 0 where
  pub rounds : ℕ → ℕ
  pub are : Rounds b h rounds
  pub free : (u : ℕ) → u < b.sites → mark fs u ≡ 0 → rounds u ≡ 0
  pub some : (u : ℕ) → u < b.sites → 1 ≤ mark fs u → 1 ≤ rounds u
  pub kept : (u : ℕ) → u < b.sites → 1 ≤ mark fs u → at xs u ≡ rounds u
