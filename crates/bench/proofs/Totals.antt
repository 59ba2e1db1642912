-- What legal firings do to the totals that a bench keeps.
use Rattle.std.proofs.Common.{◌≡◌, ℕ, ◌+◌, ◌*◌, ◌<◌, ◌≤◌, min, Bool, true, false, eqb, not, ◌⊎◌, List, length, set, Some, None, Option, sym, refl, ap, ◌∙◌, subst, inl, inr, mul-zero, arith, get_or-set_other, get_or-set_same}
use native.Mathlib.Nat.{min-le_left, min-le_right, min-eq_left, min-eq_right}
use native.Mathlib.Decide.{ℕ_discrete}
use Rattle.std.proofs.lemmas.List.{get_or_past}
use Rattle.std.proofs.lemmas.Bool.{cases_lt, cond-true, cond-false, eq-eqb, ne_eqb, true≢false}
use Rattle.board.specs.Shape.{Shape, Sound, sum_below}
use Rattle.board.specs.Sums.{sum_same, sum_plus, sum_none}
use Rattle.firing.specs.Firing as firing
use Rattle.firing.specs.Firing.{at, Fires, Counts, Run, begin, fire}
use Rattle.firing.specs.Settling.{drained, Least}
use Rattle.firing.specs.Reaching.{AllLinked}
use Rattle.firing.proofs.Action.{run_follows, follows_conserves}
use Rattle.firing.proofs.Runs.{counts_total, drained_more}
use Rattle.settling.specs.declared.settle.Outcome.{Outcome}
use Rattle.settling.specs.Settlings.{Ended, Counted}
use Rattle.settling.specs.Firings.{LowestReady}
use Rattle.settling.proofs.Visits.{tallied_none}
use Rattle.settling.proofs.Going.{ended_still, ended_spent}
use Rattle.std.specs.Option.{is_some}
use Rattle.bench.specs.declared.Word.{Word}
use Rattle.bench.specs.declared.Word.TheVariants.{Still, Ceiling, Budget}
use Rattle.bench.specs.States.{State}
use Rattle.bench.specs.Answers.{once, Number, WordIs}
use Rattle.bench.specs.Waves.{WordFor}

module _ (s : Shape) where
  pub moved_conserved : Sound s → (n : ℕ) (xs xs' : List ℕ) (w : ℕ → ℕ) (d d' g : ℕ) → n ≡ s.sites → Run s (at xs) (at xs') w → sum_below n (at xs) + d ≡ g → d' ≡ d + drained s w
      → sum_below n (at xs') + d' ≡ g
  moved_conserved sound n xs xs' w d d' g size run kept more =
      omega (
        arith,
        follows_conserves s (at xs) (at xs') w (run_follows s sound (at xs) run),
        ap (λ k. sum_below k (at xs)) size,
        ap (λ k. sum_below k (at xs')) size,
      )

  pub moved_counted : (n : ℕ) (cs cs' : List ℕ) (w : ℕ → ℕ) (f f' : ℕ) → n ≡ s.sites → ((v : ℕ) → v < s.sites → at cs' v ≡ at cs v + w v) → sum_below n (at cs) ≡ f → f' ≡ f + sum_below s.sites w
      → sum_below n (at cs') ≡ f'
  moved_counted n cs cs' w f f' size counted total more =
      omega (
        arith,
        ap (λ k. sum_below k (at cs)) size,
        ap (λ k. sum_below k (at cs')) size,
        sum_same s.sites (at cs') (λ v. at cs v + w v) counted,
        sum_plus s.sites (at cs) w,
      )

  pub moved_grown : (cs cs' os : List ℕ) (w : ℕ → ℕ) → length cs ≡ s.sites → ((v : ℕ) → v < s.sites → at cs' v ≡ at cs v + w v) → ((u : ℕ) → at os u ≤ at cs u) → (u : ℕ) → at os u ≤ at cs' u
  moved_grown cs cs' os w size counted grown u = elim (cases_lt u s.sites) [
    | inl l ↦ omega (arith, counted u l, grown u)
    | inr l ↦ omega (arith, grown u, get_or_past cs u 0 (omega arith))
  ]

  -- one firing
  once_counts : (v : ℕ) → Counts s v (λ u. 0) (once v)
  once_counts v = record {
    one_more = cond-true (eqb v v) 1 0 (eq-eqb v v refl) ∙ omega arith;
    others = λ u l ne. cond-false (eqb u v) 1 0 (ne_eqb u v ne);
  }

  pub once_run : (h h' : ℕ → ℕ) (v : ℕ) → Fires s v h h' → Run s h h' (once v)
  once_run h h' v f = fire v (begin (λ u l. refl) (λ u l. refl)) f (once_counts v)

  pub once_total : (v : ℕ) → v < s.sites → sum_below s.sites (once v) ≡ 1
  once_total v on = omega (arith, counts_total s (λ u. 0) (once v) v on (once_counts v), sum_none s.sites (λ u. 0) (λ u l. refl))

  pub once_drained : (v : ℕ) → v < s.sites → drained s (once v) ≡ s.s v
  once_drained v on = omega (arith, drained_more s (λ u. 0) (once v) v on (once_counts v), sum_none s.sites (λ u. s.s u * 0) (λ u l. mul-zero (s.s u)))

  pub once_counted : (cs : List ℕ) (v : ℕ) → v < length cs → (u : ℕ) → at (set cs v (at cs v + 1)) u ≡ at cs u + once v u
  once_counted cs v on u = elim (ℕ_discrete u v) [
    | yes p ↦ subst (λ i. at (set cs v (at cs v + 1)) i ≡ at cs i + once v i) (sym p) (omega (arith, get_or-set_same cs v (at cs v + 1) 0 on, (once_counts v).one_more))
    | no q ↦ omega (arith, get_or-set_other cs v u (at cs v + 1) 0 q, cond-false {A = ℕ} (eqb u v) 1 0 (ne_eqb u v q))
  ]

  -- a run that ended with this outcome
  limit_one : (budget rest limit k : ℕ) → limit ≡ min budget rest → k ≡ limit → (k ≡ budget) ⊎ (k ≡ rest)
  limit_one budget rest limit k e is = elim (cases_lt rest budget) [
    | inl l ↦ let le : rest ≤ budget = omega arith in inr (is ∙ e ∙ min-eq_right le)
    | inr l ↦ inl (is ∙ e ∙ min-eq_left l)
  ]

  pub run_number : (c h : ℕ → ℕ) (budget rest limit : ℕ) (o : Outcome) → limit ≡ min budget rest → Ended s c h limit o → Number s c budget rest o.fired
  run_number c h budget rest limit o e r = record {
    in_budget = omega (arith, r.within, min-le_left budget rest);
    in_left = omega (arith, r.within, min-le_right budget rest);
    in_least = r.fewest;
    is_one = λ linked. go o.still refl linked;
  }
    where
      go : (b : Bool) → o.still ≡ b → AllLinked s → (o.fired ≡ budget) ⊎ ((o.fired ≡ rest) ⊎ ((w : ℕ → ℕ) × Least s c w × (sum_below s.sites w ≡ o.fired)))
      go true t linked = inr (inr (r.counts, r.least linked t, r.total))
      go false t linked = elim (limit_one budget rest limit o.fired e (r.is_spent t)) [ inl p ↦ inl p | inr p ↦ inr (inl p) ]

  pub run_says : (c : ℕ → ℕ) (y : State) (budget rest limit : ℕ) (o : Outcome) (full : Bool) (word : Word) → limit ≡ min budget rest → Ended s c (at y.heights) limit o
      → (full ≡ true → y.fired ≡ y.ceiling) → (full ≡ false → (o.fired < rest) × (y.fired < y.ceiling)) → WordFor o.still full word → WordIs s y budget o.fired word
  run_says c y budget rest limit o full word e r yes-full not_full = go o.still full refl refl
    where
      at_word : (w w' : Word) → w' ≡ w → WordIs s y budget o.fired w → WordIs s y budget o.fired w'
      at_word w w' e i = subst (WordIs s y budget o.fired) (sym e) i

      moving : o.still ≡ false → firing.Still s (at y.heights) → ⊥
      moving t still = true≢false (sym (r.is_still.1 still) ∙ t)

      go : (b f : Bool) → o.still ≡ b → full ≡ f → WordFor b f word → WordIs s y budget o.fired word
      go true f t u w = at_word Still word w (r.is_still.0 t)
      go false true t u w = at_word Ceiling word w (moving t, yes-full u)
      go false false t u w =
          at_word Budget word w (
            moving t,
            (not_full u).1,
            elim (limit_one budget rest limit o.fired e (r.is_spent t)) [ inl p ↦ p | inr p ↦ absurd (omega (arith, (not_full u).0)) ],
          )

  -- a run with a limit of 0
  pub none_fired : Sound s → (xs cs : List ℕ) (limit : ℕ) (r : Option ℕ) (still : Bool) → limit ≡ 0 → LowestReady s (at xs) r → is_some r ≡ not still
      → Counted s (at xs) (at xs) limit (record { fired = 0; still = still }) cs cs
  none_fired sound xs cs limit None true e low is = ended_still sound (at xs) (at xs) cs cs limit _ (tallied_none s (at xs) cs) (omega arith) refl low
  none_fired sound xs cs limit None false e low is = absurd (true≢false (sym is))
  none_fired sound xs cs limit (Some v) true e low is = absurd (true≢false is)
  none_fired sound xs cs limit (Some v) false e low is = ended_spent sound (at xs) (at xs) cs cs limit _ (tallied_none s (at xs) cs) (omega arith) refl (omega arith) v low
