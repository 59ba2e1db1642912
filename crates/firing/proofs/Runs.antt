-- Legal runs: one after the other, several firings at once, and what a firing adds to the totals.
use Rattle.std.proofs.Common.{◌≡◌, ℕ, zero, suc, ◌+◌, ◌*◌, ◌<◌, ◌≤◌, cond, eqb, ◌≢◌, sym, refl, ap, ◌∙◌, subst, suc-mul, zero-mul, arith}
use native.Mathlib.Decide.{ℕ_discrete}
use Rattle.std.proofs.lemmas.Bool.{cond-true, cond-false, eq-eqb, ne_eqb}
use Rattle.board.specs.Shape.{Shape, Sound, deg, sum_below}
use Rattle.board.specs.Sums.{sum_up, sum_plus}
use Rattle.firing.specs.Firing.{fires_from, Fires, Counts, Run, begin, fire}
use Rattle.firing.specs.Settling.{drained, Settles, Same}
use Rattle.firing.proofs.Sums.{sum_point}
use Rattle.firing.proofs.Degrees.{deg_is}
use Rattle.firing.proofs.Action.{least_action}

module _ (b : Shape) where
  -- a run speaks of the sites of the board alone
  pub run_same : (c : ℕ → ℕ) {h w : ℕ → ℕ} (h' w' : ℕ → ℕ) → Run b c h w → Same b h' h → Same b w' w → Run b c h' w'
  run_same c h' w' (begin at none) eh ew = begin (λ v l. eh v l ∙ at v l) (λ v l. ew v l ∙ none v l)
  run_same c h' w' (fire x r f k) eh ew =
      fire x r
      (record { on = f.on; can = f.can; gives = omega (arith, eh x f.on, f.gives); gets = λ u l ne. eh u l ∙ f.gets u l ne })
      (record { one_more = ew x f.on ∙ k.one_more; others = λ u l ne. ew u l ∙ k.others u l ne })

  -- one run and then another
  pub run_then : (c : ℕ → ℕ) {h w : ℕ → ℕ} → Run b c h w → {h' w' : ℕ → ℕ} → Run b h h' w' → (w'' : ℕ → ℕ) → ((v : ℕ) → v < b.sites → w'' v ≡ w v + w' v) → Run b c h' w''
  run_then c {h} {w} r (begin {h = h'} {w = w'} at none) w'' e = run_same c h' w'' r at (λ v l. omega (arith, e v l, none v l))
  run_then c {h} {w} r (fire {h = h₁} {h' = h'} {w = w₁} {w' = w'} x s f k) w'' e =
      fire x (run_then c r s (λ u. w u + w₁ u) (λ v l. refl)) f
      (record { one_more = omega (arith, e x f.on, k.one_more); others = λ u l ne. omega (arith, e u l, k.others u l ne) })

  -- with more grains on the sites the same run is legal
  pub run_more : (c d : ℕ → ℕ) {h w : ℕ → ℕ} → Run b c h w → Run b (λ v. c v + d v) (λ v. h v + d v) w
  run_more c d (begin at none) = begin (λ v l. omega (arith, at v l)) none
  run_more c d (fire {h = h} {h' = h'} x r f k) =
      fire x (run_more c d r)
      (record { on = f.on; can = (f.can.0, omega (arith, f.can.1)); gives = omega (arith, f.gives); gets = λ u l ne. omega (arith, f.gets u l ne) })
      k

  -- k firings of v: legal if the last one is
  pub run_many : (c : ℕ → ℕ) (v k : ℕ) → v < b.sites → 1 ≤ deg b v → {h w : ℕ → ℕ} (h' w' : ℕ → ℕ) → Run b c h w
      → (1 ≤ k → fires_from b v ≤ h' v + deg b v) → h' v + k * deg b v ≡ h v → ((u : ℕ) → u < b.sites → u ≢ v → h' u ≡ h u + k * b.m v u)
      → w' v ≡ w v + k → ((u : ℕ) → u < b.sites → u ≢ v → w' u ≡ w u) → Run b c h' w'
  run_many c v zero on linked {h} {w} h' w' r last hv hu wv wu =
      run_same c h' w' r
      (λ u l. elim (ℕ_discrete u v) [ yes p ↦ subst (λ i. h' i ≡ h i) (sym p) (omega (arith, zero-mul (deg b v))) | no q ↦ omega (arith, hu u l q, zero-mul (b.m v u)) ])
      (λ u l. elim (ℕ_discrete u v) [ yes p ↦ subst (λ i. w' i ≡ w i) (sym p) (omega arith) | no q ↦ wu u l q ])
  run_many c v (suc k) on linked {h} {w} h' w' r last hv hu wv wu =
      let more = suc-mul k (deg b v) in
      let high : fires_from b v ≤ h' v + deg b v = last (omega arith) in
      let mid : ℕ → ℕ = λ u. cond (eqb u v) (h' v + deg b v) (h u + k * b.m v u) in
      let counts : ℕ → ℕ = λ u. cond (eqb u v) (w v + k) (w u) in
      let at : mid v ≡ h' v + deg b v = cond-true (eqb v v) (h' v + deg b v) (h v + k * b.m v v) (eq-eqb v v refl) in
      let off : (u : ℕ) → u ≢ v → mid u ≡ h u + k * b.m v u = λ u ne. cond-false (eqb u v) (h' v + deg b v) (h u + k * b.m v u) (ne_eqb u v ne) in
      let counts-at : counts v ≡ w v + k = cond-true (eqb v v) (w v + k) (w v) (eq-eqb v v refl) in
      let counts-off : (u : ℕ) → u ≢ v → counts u ≡ w u = λ u ne. cond-false (eqb u v) (w v + k) (w u) (ne_eqb u v ne) in
      fire v (run_many c v k on linked mid counts r (λ one. omega arith) (omega arith) (λ u l ne. off u ne) counts-at (λ u l ne. counts-off u ne))
      (record { on = on; can = (linked, omega arith); gives = omega arith; gets = λ u l ne. omega (arith, hu u l ne, off u ne, suc-mul k (b.m v u)) })
      (record { one_more = omega arith; others = λ u l ne. wu u l ne ∙ sym (counts-off u ne) })

  -- a firing loses what goes to the drain, and no other grain
  pub fires_total : Sound b → (h h' : ℕ → ℕ) (x : ℕ) → Fires b x h h' → sum_below b.sites h' + b.s x ≡ sum_below b.sites h
  fires_total sound h h' x f =
      let loop = sound.no_loop x in
      let moved : sum_below b.sites (λ u. h u + b.m x u) ≡ sum_below b.sites h' + deg b x =
      sum_point b.sites h' (λ u. h u + b.m x u) x (deg b x) f.on (omega (arith, f.gives)) (λ u l ne. sym (f.gets u l ne)) in
      omega (arith, sum_plus b.sites h (b.m x), deg_is b x)

  pub counts_total : (w w' : ℕ → ℕ) (x : ℕ) → x < b.sites → Counts b x w w' → sum_below b.sites w' ≡ sum_below b.sites w + 1
  counts_total w w' x l k = sum_point b.sites w w' x 1 l k.one_more k.others

  pub drained_more : (w w' : ℕ → ℕ) (x : ℕ) → x < b.sites → Counts b x w w' → drained b w' ≡ drained b w + b.s x
  drained_more w w' x l k =
      sum_point b.sites (λ v. b.s v * w v) (λ v. b.s v * w' v) x (b.s x) l (rw k.one_more (omega arith)) (λ u l' ne. ap (λ i. b.s u * i) (k.others u l' ne))

  -- no legal run is longer than a settling list
  pub run_number : Sound b → (c h w w' : ℕ → ℕ) → Run b c h w → Settles b c w' → sum_below b.sites w ≤ sum_below b.sites w'
  run_number sound c h w w' r settles = sum_up b.sites w w' (least_action b sound c w' settles r)
