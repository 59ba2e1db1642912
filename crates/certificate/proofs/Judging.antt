-- The verdict on a certificate, from what each check found.
use Rattle.std.proofs.Common.{◌≡◌, ℕ, ◌<◌, ◌≤◌, Bool, true, false, not, ◌↔◌, List, length, Ok, Err, Result, sym, refl, ap, ◌∙◌, inl, inr, arith}
use Rattle.std.proofs.lemmas.Bool.{both_ways, true≢false}
use Rattle.refusal.specs.declared.Refusal.{Refusal}
use Rattle.refusal.specs.Table.{First}
use Rattle.board.specs.Shape.{Shape, Sound}
use Rattle.firing.specs.Firing.{at, Still, Lowest}
use Rattle.firing.specs.Settling.{Follows, Least}
use Rattle.firing.specs.Reaching.{Reaches, AllReach}
use Rattle.firing.specs.TakingBack.{TakesBack, Empty}
use Rattle.firing.specs.Certificates.{TakenBackAt}
use Rattle.firing.proofs.Choosing.{first, first_holds, first_least, first_below}
use Rattle.firing.proofs.Reach.{within, within_reaches, reaches_near}
use Rattle.firing.proofs.Stands.{reach_linked, certificate_law}
use Rattle.settling.specs.Reaching.{Astray}
use Rattle.certificate.proofs.Limited.{not_above}
use Rattle.certificate.specs.Fits.{Low, Fit}
use Rattle.certificate.specs.Verdicts.{Unfit, OverLimit, Early, Verdict, LeastCounts, ByLeastCounts, certificate_checks}

-- there is room
room_for : (n : ℕ) (c w h : List ℕ) (slots bytes : ℕ) → Fit n c w h → n ≤ slots → n ≤ bytes → Unfit n (length c) (length w) (length h) slots bytes → ⊥
room_for n c w h slots bytes fit list marks u = grind arith

low_enough : (c w h : List ℕ) → Low c w h → OverLimit c w h → ⊥
low_enough c w h low (inl p) = not_above 1000000 c low.0 p
low_enough c w h low (inr (inl p)) = not_above 1000000000000 w low.1 p
low_enough c w h low (inr (inr p)) = not_above 1000000 h low.2 p

-- no check refuses
pub accepted : (b : Shape) (c w h : List ℕ) (slots bytes : ℕ) → Fit b.sites c w h → b.sites ≤ slots → b.sites ≤ bytes → AllReach b → Follows b (at c) (at w) (at h) → Still b (at h)
    → ((S : ℕ → Bool) → TakesBack b (at w) (at h) S → Empty b S) → Verdict b c w h slots bytes (Ok tt)
accepted b c w h slots bytes fit list marks every follows still none = (
  (
    λ p m. room_for b.sites c w h slots bytes fit list marks m.1,
    (
      λ p m. low_enough c w h fit.low m.1,
      (
        λ p m. m.holds (every p m.on),
        (λ p m. m.holds (follows p m.on), (λ p m. still p m.on m.holds, (λ p m. both_ways (m.0 p) (none m.0 m.1.back p m.2.on) m.2.holds, tt))),
      ),
    ),
  ),
  record { follows = follows; still = still; none_back = none },
)

module _ (b : Shape) (ok : Sound b) where
  -- where no site is the lowest that does not reach the drain, all reach it
  none_astray : ((p : ℕ) → Lowest b (Astray b) p → ⊥) → AllReach b
  none_astray none v l = go (within b b.sites v) refl
    where
      lost : ℕ → Bool
      lost k = not (within b b.sites k)

      found : (k : ℕ) → k < b.sites → (s : Bool) → within b b.sites k ≡ s → (not s ≡ true → ⊥) → Reaches b k
      found k lk true e no' = within_reaches b b.sites k lk e
      found k lk false e no' = absurd (no' refl)

      go : (s : Bool) → within b b.sites v ≡ s → Reaches b v
      go true e = within_reaches b b.sites v l e
      go false e =
          let p = first (λ k. not (within b b.sites k)) v in
          let below : p ≤ v = first_below v (λ k. not (within b b.sites k)) in
          let at_p : not (within b b.sites p) ≡ true = first_holds v (λ k. not (within b b.sites k)) (ap not e) in
          absurd (none p (record {
            on = omega arith;
            holds = λ r. true≢false (sym at_p ∙ ap not (reaches_near b r));
            before = λ u less stray. stray (found u (omega arith) (within b b.sites u) refl (λ t. omega (arith, first_least v (λ k. not (within b b.sites k)) u t)));
          }))

  law : (c w h : ℕ → ℕ) → AllReach b → Follows b c w h → Still b h → Least b c w ↔ ((S : ℕ → Bool) → TakesBack b w h S → Empty b S)
  law c w h every follows still = certificate_law b ok (reach_linked b ok every) c h w follows still

  -- where a set with a site can be taken back, the counts are not the least
  not_least : (c w h : ℕ → ℕ) (p : ℕ) → AllReach b → TakenBackAt b w h p → LeastCounts b c w h → ⊥
  not_least c w h p every t l =
      both_ways (t.0 p) ((law c w h every l.follows l.still).0 l.least t.0 t.1.back p t.2.on) t.2.holds

  -- a refusal that no earlier row explains
  refuted : (c w h : List ℕ) (slots bytes : ℕ) (e : Refusal) → (Early e.row → ⊥) → First (certificate_checks b c w h slots bytes) e.row e.place → LeastCounts b (at c) (at w) (at h) → ⊥
  refuted c w h slots bytes e heard (inl m) l = heard (inl m.0)
  refuted c w h slots bytes e heard (inr (_, inl m)) l = heard (inr (inl m.0))
  refuted c w h slots bytes e heard (inr (_, inr (_, inl m))) l = heard (inr (inr m.0))
  refuted c w h slots bytes e heard (inr (_, inr (_, inr (_, inl m)))) l = m.1.holds (l.follows e.place m.1.on)
  refuted c w h slots bytes e heard (inr (_, inr (_, inr (_, inr (_, inl m))))) l = l.still e.place m.1.on m.1.holds
  refuted c w h slots bytes e heard (inr (_, inr (_, inr (reached, inr (_, inr (_, inl m)))))) l = not_least (at c) (at w) (at h) e.place (none_astray reached) m.1 l
  refuted c w h slots bytes e heard (inr (_, inr (_, inr (_, inr (_, inr (_, inr (_, f))))))) l = f

  -- the verdict says whether the counts are the least
  pub judged : (c w h : List ℕ) (slots bytes : ℕ) (r : Result Unit Refusal) → Verdict b c w h slots bytes r → ByLeastCounts b (at c) (at w) (at h) r
  judged c w h slots bytes (Ok _) v heard =
      let cert = v.1 in (
        λ t. record { follows = cert.follows; still = cert.still; least = (law (at c) (at w) (at h) (none_astray v.0.1.1.0) cert.follows cert.still).1 cert.none_back },
        λ l. refl,
      )
  judged c w h slots bytes (Err e) v heard = (λ t. absurd (true≢false (sym t)), λ l. absurd (refuted c w h slots bytes e heard v.by l))
