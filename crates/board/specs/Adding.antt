-- What making a link list and adding to it do.
use Rattle.std.specs.Prelude.{◌≡◌, ℕ, ◌+◌, ◌<◌, ◌⊎◌, List, [], ◌∷◌, length, Ok, Err, Result}
use Rattle.refusal.specs.declared.Row.TheVariants as row
use Rattle.refusal.specs.declared.Part.TheVariants as part
use Rattle.refusal.specs.declared.Refusal.{Refusal}
use Rattle.refusal.specs.Table.{Check, Passed, Refused}
use Rattle.board.specs.Shape.{Shape, all_links}
use Rattle.board.specs.Limits.{Beyond}
use Rattle.board.specs.declared.link.End.{End}
use Rattle.board.specs.Links.{weight, Misfit}
use Rattle.board.specs.declared.list.LinkList.{LinkList}
use Rattle.board.specs.Lists.{listed, linked, bare}

-- the board that a list means
abbrev pub shape_of : LinkList → Shape
shape_of x = listed x.sites (length x.records.items) x.records.items

-- a list has 1 to 4,096 sites
abbrev pub list_checks : ℕ → List Check
list_checks n = record { row = row.Limit; when = λ p. (p ≡ 0) × Beyond 1 4096 n } ∷ []

-- a record has a link at least, and all links together at most 500,000; its sites are on the board, and apart; 4,096 records fill the list
abbrev pub add_checks : LinkList → ℕ → End → ℕ → List Check
add_checks x a b k =
    record { row = row.Limit; when = λ p. (p ≡ 0) × ((k < 1) ⊎ (500000 < all_links (shape_of x) + weight b k)) }
    ∷ record { row = row.Site; when = λ p. Misfit x.sites a b p }
    ∷ record { row = row.ListFull; when = λ p. (p ≡ 0) × (length x.records.items ≡ 4096) }
    ∷ []

-- a new list has no links
abbrev pub Made : ℕ → Result LinkList Refusal → Type 0
Made n (Ok x) = Passed (list_checks n) × (length x.records.items ≡ 0) × (shape_of x ≡ bare n)
Made n (Err e) = Refused (list_checks n) part.Board e

-- the list x becomes y: one record more, and its links; or nothing changes
abbrev pub Added : LinkList → LinkList → ℕ → End → ℕ → Result Unit Refusal → Type 0
Added x y a b k (Ok _) = Passed (add_checks x a b k) × (shape_of y ≡ linked (shape_of x) (record { site = a; other = b; count = k })) × (length y.records.items ≡ length x.records.items + 1)
Added x y a b k (Err e) = Refused (add_checks x a b k) part.Board e × (y ≡ x)
