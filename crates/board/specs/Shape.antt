-- What a board means: its number of sites, the links between two sites, the links of a site to the drain.
use Rattle.std.specs.Prelude.{◌≡◌, ℕ, zero, suc, ◌+◌, ◌<◌, ◌≤◌, Some, None, Option}

pub record Shape : Type 0 where
  pub sites : ℕ
  pub m : ℕ → ℕ → ℕ
  pub s : ℕ → ℕ

-- f 0 + .. + f (n - 1)
unfoldable pub sum_below : ℕ → (ℕ → ℕ) → ℕ
sum_below zero f = 0
sum_below (suc n) f = sum_below n f + f n

-- all links of v to sites
abbrev pub row_total : Shape → ℕ → ℕ
row_total b v = sum_below b.sites (b.m v)

-- all links: between sites over ordered pairs, and to the drain
abbrev pub all_links : Shape → ℕ
all_links b = sum_below b.sites (row_total b) + sum_below b.sites b.s

-- the laws of a board
pub record Sound (b : Shape) : Type 0 where
  pub some : 1 ≤ b.sites
  pub few : b.sites ≤ 4096
  pub symmetric : (u v : ℕ) → b.m u v ≡ b.m v u
  pub no_loop : (v : ℕ) → b.m v v ≡ 0
  pub off : (u v : ℕ) → b.sites ≤ v → b.m u v ≡ 0
  pub off_drain : (v : ℕ) → b.sites ≤ v → b.s v ≡ 0
  pub total : all_links b ≤ 500000

-- the degree of v: its links to the drain and to all sites
unfoldable pub deg : Shape → ℕ → ℕ
deg b v = b.s v + row_total b v

-- u is the least place from j on where f is not 0
pub record Least (f : ℕ → ℕ) (j u : ℕ) : Type 0 where
  pub from : j ≤ u
  pub linked : 0 < f u
  pub before : (k : ℕ) → j ≤ k → k < u → f k ≡ 0

-- the least place from j on where f is not 0, or none
abbrev pub LeastFrom : (ℕ → ℕ) → ℕ → Option ℕ → Type 0
LeastFrom f j (Some u) = Least f j u
LeastFrom f j None = (k : ℕ) → j ≤ k → f k ≡ 0

-- next of v from j: the least site from j on that v is linked to, or none
abbrev pub NextIs : Shape → ℕ → ℕ → Option ℕ → Type 0
NextIs b v j r = LeastFrom (b.m v) j r

-- what follows of every board
pub record Follows (b : Shape) : Type 0 where
  pub linked_on : (v u : ℕ) → 0 < b.m v u → u < b.sites
  pub off_left : (u v : ℕ) → b.sites ≤ u → b.m u v ≡ 0
  pub m_le : (u v : ℕ) → b.m u v ≤ 500000
  pub s_le : (v : ℕ) → b.s v ≤ 500000

-- the laws of the degree
pub record Degrees (b : Shape) : Type 0 where
  pub is : (v : ℕ) → deg b v ≡ b.s v + row_total b v
  pub limit : (v : ℕ) → deg b v ≤ 500000
  pub off : (v : ℕ) → b.sites ≤ v → deg b v ≡ 0
  pub above_m : (v u : ℕ) → b.m v u ≤ deg b v
  pub above_s : (v : ℕ) → b.s v ≤ deg b v
  pub all : sum_below b.sites (deg b) ≡ all_links b
