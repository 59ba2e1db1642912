-- The verdicts on the grid 1×2.
use Rattle.std.proofs.Common.{◌≡◌, ℕ, zero, suc, ◌≤◌, List, [], ◌∷◌, Ok, Err, sym, refl, ◌∙◌, inl, inr, arith, lit<, lit≤}
use Rattle.std.proofs.lemmas.Bool.{true≢false}
use Rattle.refusal.specs.declared.Row.TheVariants as row
use Rattle.refusal.specs.declared.Part.TheVariants as part
use Rattle.board.specs.Shape.{Shape}
use Rattle.board.specs.Grids.{grid_of}
use Rattle.firing.specs.Firing.{at, Still, Lowest}
use Rattle.firing.specs.Settling.{Follows}
use Rattle.firing.specs.Reaching.{AllReach, out}
use Rattle.firing.specs.Certificates.{NotFollowingAt, EndFiresAt}
use Rattle.settling.specs.Reaching.{Astray}
use Rattle.firing.proofs.Examples as examples
use Rattle.certificate.specs.Verdicts.{Verdict, Unfit, Above, OverLimit}

abbrev pair : Shape
pair = grid_of 1 2

abbrev two : ℕ → ℕ → List ℕ
two a b = a ∷ b ∷ []

reach : AllReach pair
unfolding grid_of
reach zero l = out 0 (lit< tt) (lit≤ tt)
reach (suc zero) l = out 1 (lit< tt) (lit≤ tt)
reach (suc (suc v)) l = absurd (omega arith)

low : (limit a b : ℕ) → a ≤ limit → b ≤ limit → Above limit (two a b) → ⊥
low limit a b la lb (zero, l) = omega arith
low limit a b la lb (suc zero, l) = omega arith
low limit a b la lb (suc (suc v), l) = omega arith

-- memory and limits
fits : (p : ℕ) → (p ≡ 0) × Unfit 2 2 2 2 2 2 → ⊥
fits p (e, inl ne) = ne refl
fits p (e, inr (inl ne)) = ne refl
fits p (e, inr (inr (inl ne))) = ne refl
fits p (e, inr (inr (inr (inl l)))) = omega arith
fits p (e, inr (inr (inr (inr l)))) = omega arith

limits : (c₀ c₁ w₀ w₁ h₀ h₁ : ℕ) → c₀ ≤ 9 → c₁ ≤ 9 → w₀ ≤ 9 → w₁ ≤ 9 → h₀ ≤ 9 → h₁ ≤ 9 → (p : ℕ) → (p ≡ 0) × OverLimit (two c₀ c₁) (two w₀ w₁) (two h₀ h₁) → ⊥
limits c₀ c₁ w₀ w₁ h₀ h₁ a b c d e f p (z, inl o) = low 1000000 c₀ c₁ (omega arith) (omega arith) o
limits c₀ c₁ w₀ w₁ h₀ h₁ a b c d e f p (z, inr (inl o)) = low 1000000000000 w₀ w₁ (omega arith) (omega arith) o
limits c₀ c₁ w₀ w₁ h₀ h₁ a b c d e f p (z, inr (inr o)) = low 1000000 h₀ h₁ (omega arith) (omega arith) o

drains : (p : ℕ) → Lowest pair (Astray pair) p → ⊥
drains p l = l.holds (reach p l.on)

follows_all : (c w h : ℕ → ℕ) → Follows pair c w h → (p : ℕ) → NotFollowingAt pair c w h p → ⊥
follows_all c w h f p n = n.holds (f p n.on)

still_all : (h : ℕ → ℕ) → Still pair h → (p : ℕ) → EndFiresAt pair h p → ⊥
still_all h s p e = s p e.on e.holds

pub accepted : Verdict pair (two 4 3) (two 1 1) (two 1 0) 2 2 (Ok tt)
unfolding grid_of
accepted =
    let c = (examples.worked).pair_certified in (
      (fits, (limits 4 3 1 1 1 0 (lit≤ tt) (lit≤ tt) (lit≤ tt) (lit≤ tt) (lit≤ tt) (lit≤ tt), (drains, (follows_all (at (two 4 3)) (at (two 1 1)) (at (two 1 0)) c.follows, (still_all (at (two 1 0)) c.still, (λ p t. true≢false (sym t.2.holds ∙ c.none_back t.0 t.1.back p t.2.on), tt)))))),
      c,
    )

pub end_fires : Verdict pair (two 4 3) (two 1 0) (two 0 4) 2 2 (Err (record { row = row.EndFires; place = 1; part = part.Certificate }))
unfolding grid_of
end_fires =
    let e = (examples.worked).pair_fires in
    record {
      by = inr (fits, inr (limits 4 3 1 0 0 4 (lit≤ tt) (lit≤ tt) (lit≤ tt) (lit≤ tt) (lit≤ tt) (lit≤ tt), inr (drains, inr (follows_all (at (two 4 3)) (at (two 1 0)) (at (two 0 4)) e.0, inl (refl, e.1)))));
      from = refl;
    }

pub taken_back : Verdict pair (two 3 3) (two 1 1) (two 0 0) 2 2 (Err (record { row = row.TakenBack; place = 0; part = part.Certificate }))
unfolding grid_of
taken_back =
    let e = (examples.worked).pair_back in
    record {
      by = inr (fits, inr (limits 3 3 1 1 0 0 (lit≤ tt) (lit≤ tt) (lit≤ tt) (lit≤ tt) (lit≤ tt) (lit≤ tt), inr (drains, inr (follows_all (at (two 3 3)) (at (two 1 1)) (at (two 0 0)) e.0, inr (still_all (at (two 0 0)) e.1, inl (refl, e.2))))));
      from = refl;
    }
