-- What a link list means.
use Rattle.std.specs.Prelude.{ℕ, ◌+◌, cond, List, Some, None, Option, nat_lt}
use Rattle.board.specs.Shape.{Shape}
use Rattle.board.specs.declared.link.Link.{Link}
use Rattle.board.specs.Links.{m_of, s_of, between, to_drain}

-- n sites, and the links of the first k records
abbrev pub listed : ℕ → ℕ → List Link → Shape
listed n k xs = record { sites = n; m = m_of xs k; s = s_of xs k }

-- a board with one more record of links
unfoldable pub linked : Shape → Link → Shape
linked b l = record {
  sites = b.sites;
  m = λ u v. b.m u v + between l u v;
  s = λ v. b.s v + to_drain l v;
}

-- n sites and no links
abbrev pub bare : ℕ → Shape
bare n = record { sites = n; m = λ u v. 0; s = λ v. 0 }

-- the lesser of two sites, the second only from j on
abbrev pub nearer : ℕ → Option ℕ → Option ℕ → Option ℕ
nearer j None None = None
nearer j (Some x) None = Some x
nearer j None (Some w) = cond (nat_lt w j) None (Some w)
nearer j (Some x) (Some w) = cond (nat_lt w j) (Some x) (cond (nat_lt w x) (Some w) (Some x))
