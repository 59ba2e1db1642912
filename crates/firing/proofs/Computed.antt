-- Facts about each site of a small board, by computing a test.
use Rattle.std.proofs.Common.{◌≡◌, ℕ, zero, suc, ◌+◌, ◌*◌, ◌<◌, Bool, true, not, ◌&&◌, eqb, ltb, leb, arith}
use native.Mathlib.Decide.{ℕ_discrete}
use Rattle.std.proofs.lemmas.Bool.{leb-true, eqb-true, ltb-true, and_parts, not-true}
use Rattle.board.specs.Shape.{Shape, Sound, deg}
use Rattle.firing.specs.Firing.{fires_from, Still}
use Rattle.firing.specs.Settling.{inflow, drained, Settles, Follows, Least, Settled}
use Rattle.firing.specs.Reaching.{AllLinked}
use Rattle.firing.specs.Burning.{Rounds, AllBurn}
use Rattle.firing.specs.Certificates.{Certified}
use Rattle.firing.specs.Worked.{Comes}
use Rattle.firing.proofs.Action.{below_still}
use Rattle.firing.proofs.Back.{certified}
use Rattle.firing.proofs.Rounds.{burnt, Marked, marked_rounds, burn_no_back}

-- a test that passes at each number below n
abbrev pub all : ℕ → (ℕ → Bool) → Bool
all zero t = true
all (suc n) t = all n t && t n

pub all_at : (n : ℕ) (t : ℕ → Bool) → all n t ≡ true → (v : ℕ) → v < n → t v ≡ true
all_at zero t e v l = absurd (omega arith)
all_at (suc n) t e v l =
    let p = and_parts (all n t) (t n) e in
    elim (ℕ_discrete v n) [ yes q ↦ rw q p.1 | no q ↦ all_at n t p.0 v (omega arith) ]

-- two lists, equal below n
pub equal : (n : ℕ) (f g : ℕ → ℕ) → all n (λ v. eqb (f v) (g v)) ≡ true → (v : ℕ) → v < n → f v ≡ g v
equal n f g e v l = eqb-true (f v) (g v) (all_at n (λ v. eqb (f v) (g v)) e v l)

abbrev mark : Shape → (ℕ → ℕ) → ℕ → ℕ → Bool
mark b h v zero = not (burnt b h b.sites v)
mark b h v (suc k) = not (burnt b h k v) && burnt b h (suc k) v

marked : (b : Shape) (h : ℕ → ℕ) (v k : ℕ) → mark b h v k ≡ true → Marked b h v k
marked b h v zero e = not-true (burnt b h b.sites v) e
marked b h v (suc k) e = let p = and_parts (not (burnt b h k v)) (burnt b h (suc k) v) e in (not-true (burnt b h k v) p.0, p.1)

module _ (b : Shape) where
  abbrev pub linked? : Bool
  linked? = all b.sites (λ v. leb 1 (deg b v))

  pub linked : linked? ≡ true → AllLinked b
  linked e v l = leb-true 1 (deg b v) (all_at b.sites (λ v. leb 1 (deg b v)) e v l)

  abbrev pub follows? : (ℕ → ℕ) → (ℕ → ℕ) → (ℕ → ℕ) → Bool
  follows? c w h = all b.sites (λ v. eqb (h v + deg b v * w v) (c v + inflow b w v))

  pub follows : (c w h : ℕ → ℕ) → follows? c w h ≡ true → Follows b c w h
  follows c w h e v l = eqb-true (h v + deg b v * w v) (c v + inflow b w v) (all_at b.sites (λ v. eqb (h v + deg b v * w v) (c v + inflow b w v)) e v l)

  abbrev pub settles? : (ℕ → ℕ) → (ℕ → ℕ) → Bool
  settles? c w = all b.sites (λ v. ltb (c v + inflow b w v) (fires_from b v + deg b v * w v))

  pub settles : (c w : ℕ → ℕ) → settles? c w ≡ true → Settles b c w
  settles c w e v l = ltb-true (c v + inflow b w v) (fires_from b v + deg b v * w v) (all_at b.sites (λ v. ltb (c v + inflow b w v) (fires_from b v + deg b v * w v)) e v l)

  abbrev pub low? : (ℕ → ℕ) → Bool
  low? h = all b.sites (λ v. ltb (h v) (fires_from b v))

  pub still : (h : ℕ → ℕ) → low? h ≡ true → Still b h
  still h e = below_still b h (λ v l. ltb-true (h v) (fires_from b v) (all_at b.sites (λ v. ltb (h v) (fires_from b v)) e v l))

  abbrev pub rounds? : (ℕ → ℕ) → (ℕ → ℕ) → Bool
  rounds? h r = all b.sites (λ v. mark b h v (r v))

  pub rounds : (h r : ℕ → ℕ) → rounds? h r ≡ true → Rounds b h r
  rounds h r e = marked_rounds b h r (λ v l. marked b h v (r v) (all_at b.sites (λ v. mark b h v (r v)) e v l))

  abbrev pub some? : (ℕ → ℕ) → Bool
  some? r = all b.sites (λ v. leb 1 (r v))

  pub burn : (h r : ℕ → ℕ) → rounds? h r ≡ true → some? r ≡ true → AllBurn b h
  burn h r e f = (r, rounds h r e, λ v l. leb-true 1 (r v) (all_at b.sites (λ v. leb 1 (r v)) f v l))

  module _ (sound : Sound b) (linked! : linked? ≡ true) (c w h r : ℕ → ℕ) (follows! : follows? c w h ≡ true) (low! : low? h ≡ true)
      (rounds! : rounds? h r ≡ true) (some! : some? r ≡ true) where
    -- counts that lead to still heights from which all sites burn are the least
    pub certificate : Certified b c w h
    certificate = record { follows = follows c w h follows!; still = still h low!; none_back = burn_no_back b h (burn h r rounds! some!) w }

    pub least : Least b c w
    least = certified b sound (linked linked!) c h w (follows c w h follows!) (still h low!) (burn_no_back b h (burn h r rounds! some!) w)

    pub settled : Settled b c h
    settled = (w, least, follows c w h follows!)

    pub comes : (d : ℕ) → drained b w ≡ d → Comes b c w h d
    comes d e = record { least = least; leads = follows c w h follows!; drains = e }
