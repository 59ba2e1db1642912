-- Links of two sites, or of a site and the drain, and tables of them: the records of a list, the entries of a cut.
use Rattle.std.specs.Prelude.{◌≡◌, ℕ, zero, suc, ◌+◌, ◌<◌, ◌≤◌, Bool, true, false, cond, not, ◌&&◌, ◌||◌, ◌⊎◌, List, get_or, Some, None, Option, ◌==◌, ◌≢◌, nat_lt, slice_index_or}
use Rattle.board.specs.Shape.{sum_below}
use Rattle.board.specs.declared.link.End.{End}
use Rattle.board.specs.declared.link.End.TheVariants.{Site, Drain}
use Rattle.board.specs.declared.link.Link.{Link}

-- what stands past the end of a table
abbrev pub no_link : Link
no_link = record { site = 0; other = Site 0; count = 0 }

-- a and the end b are the sites u and v, either first
abbrev pub joins : ℕ → End → ℕ → ℕ → Bool
joins a (Site y) u v = (a == u && y == v) || (a == v && y == u)
joins a Drain u v = false

-- a and the end b are v and the drain
abbrev pub drains : ℕ → End → ℕ → Bool
drains a (Site y) v = false
drains a Drain v = a == v

-- the links of l between u and v
abbrev pub between : Link → ℕ → ℕ → ℕ
between l u v = cond (joins l.site l.other u v) l.count 0

-- the links of l between v and the drain
abbrev pub to_drain : Link → ℕ → ℕ
to_drain l v = cond (drains l.site l.other v) l.count 0

-- the links of the first k of a table between u and v: those of one pair add up
unfoldable pub m_of : List Link → ℕ → ℕ → ℕ → ℕ
m_of xs k u v = sum_below k (λ i. between (slice_index_or xs i no_link) u v)

-- the links of the first k of a table between v and the drain
unfoldable pub s_of : List Link → ℕ → ℕ → ℕ
s_of xs k v = sum_below k (λ i. to_drain (slice_index_or xs i no_link) v)

-- what c links add to the total of a board: links of two sites count from each
abbrev pub weight : End → ℕ → ℕ
weight (Site y) c = c + c
weight Drain c = c

-- what the first k of a table weigh
unfoldable pub weights : List Link → ℕ → ℕ
weights xs k = sum_below k (λ i. weight (get_or xs i no_link).other (get_or xs i no_link).count)

-- the ends are on a board of n sites, and apart
abbrev pub Fit : ℕ → ℕ → End → Type 0
Fit n a (Site y) = (a < n) × (y < n) × (a ≢ y)
Fit n a Drain = a < n

-- p is the first end, as named, that is not on a board of n sites; or the first named again
abbrev pub Misfit : ℕ → ℕ → End → ℕ → Type 0
Misfit n a (Site y) p = ((n ≤ a) × (p ≡ a)) ⊎ ((a < n) × (p ≡ y) × ((n ≤ y) ⊎ (y ≡ a)))
Misfit n a Drain p = (n ≤ a) × (p ≡ a)

-- the end that does not fit, or none
abbrev pub Fitting : ℕ → ℕ → End → Option ℕ → Type 0
Fitting n a b None = Fit n a b
Fitting n a b (Some p) = Misfit n a b p

-- Fit as a test
abbrev pub fits : ℕ → ℕ → End → Bool
fits n a (Site y) = nat_lt a n && (nat_lt y n && not (a == y))
fits n a Drain = nat_lt a n

-- the first k of a table are all on a board of n sites
unfoldable pub all_fit : ℕ → List Link → ℕ → Bool
all_fit n xs zero = true
all_fit n xs (suc k) = all_fit n xs k && fits n (get_or xs k no_link).site (get_or xs k no_link).other

-- the same of each, and each has a link at least
abbrev pub FitsAll : List Link → ℕ → ℕ → Type 0
FitsAll xs k n = (i : ℕ) → i < k → (fits n (get_or xs i no_link).site (get_or xs i no_link).other ≡ true) × (1 ≤ (get_or xs i no_link).count)

-- each of the first n has at most 500,000 links
abbrev pub Low : List Link → ℕ → Type 0
Low xs n = (i : ℕ) → i < n → (get_or xs i no_link).count ≤ 500000

-- the ends a and b are the ends c and d, either first
abbrev pub alike : ℕ → End → ℕ → End → Bool
alike a (Site y) c (Site z) = (a == c && y == z) || (a == z && y == c)
alike a (Site y) c Drain = false
alike a Drain c (Site z) = false
alike a Drain c Drain = a == c

-- i is the place of the first of n entries that is of the ends a and b, or n
pub record Found (xs : List Link) (n a : ℕ) (b : End) (i : ℕ) : Type 0 where
  pub within : i ≤ n
  pub before : (k : ℕ) → k < i → alike (get_or xs k no_link).site (get_or xs k no_link).other a b ≡ false
  pub here : i < n → alike (get_or xs i no_link).site (get_or xs i no_link).other a b ≡ true

-- the site at the other end from v
abbrev pub far : ℕ → End → ℕ → Option ℕ
far a (Site y) v = cond (a == v) (Some y) (cond (y == v) (Some a) None)
far a Drain v = None
