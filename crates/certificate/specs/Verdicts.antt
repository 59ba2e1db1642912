-- The verdict on a certificate: a start, counts and an end.
use Rattle.std.specs.Prelude.{◌≡◌, ℕ, ◌<◌, true, ◌≢◌, ◌⊎◌, ◌↔◌, List, [], ◌∷◌, length, is_ok, Ok, Err, Result}
use Rattle.refusal.specs.declared.Row.{Row}
use Rattle.refusal.specs.declared.Row.TheVariants as row
use Rattle.refusal.specs.declared.Part.TheVariants as part
use Rattle.refusal.specs.declared.Refusal.{Refusal}
use Rattle.refusal.specs.Table.{Check, Passed, Refused}
use Rattle.board.specs.Shape.{Shape}
use Rattle.firing.specs.Firing.{at, Still, Lowest}
use Rattle.firing.specs.Settling.{Follows, Least}
use Rattle.firing.specs.Certificates.{Certified, NotFollowingAt, EndFiresAt, TakenBackAt}
use Rattle.settling.specs.Reaching.{Astray}

-- a start, counts and an end are not n entries each, or the waiting list or the bytes are fewer
abbrev pub Unfit : ℕ → ℕ → ℕ → ℕ → ℕ → ℕ → Type 0
Unfit n start counts end slots bytes = (start ≢ n) ⊎ ((counts ≢ n) ⊎ ((end ≢ n) ⊎ ((slots < n) ⊎ (bytes < n))))

-- some entry is above the limit
abbrev pub Above : ℕ → List ℕ → Type 0
Above limit xs = (v : ℕ) × (limit < at xs v)

-- a height is above 1,000,000, or a count above 1,000,000,000,000
abbrev pub OverLimit : List ℕ → List ℕ → List ℕ → Type 0
OverLimit c w h = Above 1000000 c ⊎ (Above 1000000000000 w ⊎ Above 1000000 h)

-- memory; limits; sites that do not reach the drain; an end that does not follow, that can fire, that can be taken back
abbrev pub certificate_checks : Shape → List ℕ → List ℕ → List ℕ → ℕ → ℕ → List Check
certificate_checks b c w h slots bytes =
    record { row = row.Memory; when = λ p. (p ≡ 0) × Unfit b.sites (length c) (length w) (length h) slots bytes }
    ∷ record { row = row.Limit; when = λ p. (p ≡ 0) × OverLimit c w h }
    ∷ record { row = row.NoDrain; when = λ p. Lowest b (Astray b) p }
    ∷ record { row = row.NotFollowing; when = λ p. NotFollowingAt b (at c) (at w) (at h) p }
    ∷ record { row = row.EndFires; when = λ p. EndFiresAt b (at h) p }
    ∷ record { row = row.TakenBack; when = λ p. TakenBackAt b (at w) (at h) p }
    ∷ []

-- row 1, 2 or 4
abbrev pub Early : Row → Type 0
Early r = (r ≡ row.Memory) ⊎ ((r ≡ row.Limit) ⊎ (r ≡ row.NoDrain))

-- row 1, 2 or 4 refuses: there is no certificate to judge
abbrev pub Unheard : Result Unit Refusal → Type 0
Unheard (Ok _) = ⊥
Unheard (Err e) = Early e.row

-- accepted: no check refuses, and the certificate holds; or the first check that refuses
abbrev pub Verdict : Shape → List ℕ → List ℕ → List ℕ → ℕ → ℕ → Result Unit Refusal → Type 0
Verdict b c w h slots bytes (Ok _) = Passed (certificate_checks b c w h slots bytes) × Certified b (at c) (at w) (at h)
Verdict b c w h slots bytes (Err e) = Refused (certificate_checks b c w h slots bytes) part.Certificate e

-- the end h follows from c by the counts w and is still, and w are the least counts that settle c
pub record LeastCounts (b : Shape) (c w h : ℕ → ℕ) : Type 0 where
  pub follows : Follows b c w h
  pub still : Still b h
  pub least : Least b c w

-- the law of least count: unless row 1, 2 or 4 refuses, a certificate is accepted exactly when its end follows and is still and its counts are the least that settle its start
abbrev pub ByLeastCounts : Shape → (ℕ → ℕ) → (ℕ → ℕ) → (ℕ → ℕ) → Result Unit Refusal → Type 0
ByLeastCounts b c w h r = (Unheard r → ⊥) → (is_ok r ≡ true) ↔ LeastCounts b c w h

-- a certificate has one verdict
abbrev pub OneVerdict : Type 0
OneVerdict = (b : Shape) (c w h : List ℕ) (slots bytes : ℕ) (r r' : Result Unit Refusal) → Verdict b c w h slots bytes r → Verdict b c w h slots bytes r' → r ≡ r'
