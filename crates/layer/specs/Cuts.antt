-- Cut: what the layer makes of the board below.
use Rattle.std.specs.Prelude.{◌≡◌, ℕ, ◌+◌, ◌-◌, ◌<◌, Bool, true, false, ◌⊎◌, List, [], ◌∷◌, ◌++◌, length, get_or, All, sum_by, Ok, Err, Result, ◌≢◌, slice_index_or, slice_set}
use Rattle.std.specs.List.{list_all}
use Rattle.refusal.specs.declared.Row.TheVariants as row
use Rattle.refusal.specs.declared.Part.TheVariants as part
use Rattle.refusal.specs.declared.Refusal.{Refusal}
use Rattle.refusal.specs.Table.{Check, Passed, Refused}
use Rattle.board.specs.Shape.{Shape}
use Rattle.board.specs.declared.link.Link.{Link}
use Rattle.board.specs.declared.link.End.{End}
use Rattle.board.specs.declared.link.End.TheVariants.{Site, Drain}
use Rattle.board.specs.Links.{no_link, between, to_drain, alike, fits, Misfit}

-- one cut: its links are taken away, and what remains is never below 0
unfoldable pub cut_by : Shape → Link → Shape
cut_by x l = record { sites = x.sites; m = λ u v. x.m u v - between l u v; s = λ v. x.s v - to_drain l v }

-- the links of the entries xs between u and v: those of one pair add up
abbrev pub taken_m : List Link → ℕ → ℕ → ℕ
taken_m xs u v = sum_by (λ l. between l u v) xs

-- the links of the entries xs between v and the drain
abbrev pub taken_s : List Link → ℕ → ℕ
taken_s xs v = sum_by (λ l. to_drain l v) xs

-- the entries xs taken away
abbrev pub lessened : Shape → List Link → Shape
lessened x xs = record { sites = x.sites; m = λ u v. x.m u v - taken_m xs u v; s = λ v. x.s v - taken_s xs v }

-- all entries are on a board of n sites
abbrev pub all_on : ℕ → List Link → Bool
all_on n xs = list_all (λ l. fits n l.site l.other) xs

abbrev pub cut_at : Bool → Shape → List Link → Shape
cut_at true x xs = lessened x xs
cut_at false x xs = x

-- the board that the layer means: the one below where some entry is not on it
abbrev pub cut_of : Shape → List Link → Shape
cut_of x xs = cut_at (all_on x.sites xs) x xs

-- the links of a pair of ends
abbrev pub standing : Shape → ℕ → End → ℕ
standing x a (Site y) = x.m a y
standing x a Drain = x.s a

-- no entry is of the pair
abbrev pub New : List Link → ℕ → End → Type 0
New xs a b = All (λ l. alike l.site l.other a b ≢ true) xs

-- a cut takes a link at least; its sites are on the board below, and apart; 32 entries fill the layer; so many links still stand after the cuts so far
abbrev pub cut_checks : Shape → List Link → ℕ → End → ℕ → List Check
cut_checks x xs a b k =
    record { row = row.Limit; when = λ p. (p ≡ 0) × (k < 1) }
    ∷ record { row = row.Site; when = λ p. Misfit x.sites a b p }
    ∷ record { row = row.CutFull; when = λ p. (p ≡ 0) × (length xs ≡ 32) × New xs a b }
    ∷ record { row = row.FewLinks; when = λ p. (p ≡ 0) × (standing (lessened x xs) a b < k) }
    ∷ []

-- k more links in an entry
abbrev pub raised : Link → ℕ → Link
raised l k = record { site = l.site; other = l.other; count = l.count + k }

-- the entries xs become ys: the entry of the pair is raised by k, or there is a new one
abbrev pub Entered : List Link → List Link → ℕ → End → ℕ → Type 0
Entered xs ys a b k =
    (New xs a b × (ys ≡ xs ++ record { site = a; other = b; count = k } ∷ []))
    ⊎ ((i : ℕ) × (i < length xs) × (alike (get_or xs i no_link).site (get_or xs i no_link).other a b ≡ true) × (ys ≡ slice_set xs i (raised (slice_index_or xs i no_link) k)))

-- a cut on x is made: its links go too, unless the layer is idle for an entry that is not on the board below; or nothing changes
abbrev pub Cutting : Shape → List Link → List Link → ℕ → End → ℕ → Result Unit Refusal → Type 0
Cutting x xs ys a b k (Ok _) = Passed (cut_checks x xs a b k) × Entered xs ys a b k
    × (all_on x.sites xs ≡ true → cut_of x ys ≡ cut_by (cut_of x xs) (record { site = a; other = b; count = k }))
    × (all_on x.sites xs ≡ false → cut_of x ys ≡ x)
Cutting x xs ys a b k (Err e) = Refused (cut_checks x xs a b k) part.Cut e × (ys ≡ xs)
