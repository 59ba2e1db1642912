-- One visit of a site: how often it fires, and the run that its firings are.
use Rattle.std.proofs.Common.{◌≡◌, ℕ, zero, suc, ◌+◌, ◌-◌, ◌*◌, ◌/◌, ◌<◌, ◌≤◌, min, cond, eqb, ◌≢◌, List, sym, refl, ap, ◌∙◌, subst, inl, inr, mul-le-mul_left, mul-zero, mul-one, mul-suc, mul-add, arith, eq-eqb, ne_eqb}
use native.Mathlib.Nat.{mul-div-le, lt-mul-div-succ, min-le_left, min-le_right, min-eq_left, min-eq_right}
use native.Mathlib.Decide.{ℕ_discrete}
use Rattle.std.proofs.lemmas.Bool.{cases_lt, cond-true, cond-false}
use Rattle.board.specs.Shape.{Shape, deg}
use Rattle.firing.specs.Firing.{Run, begin, fire}
use Rattle.board.specs.Sums.{sum_none}
use Rattle.firing.proofs.Sums.{sum_point}
use Rattle.firing.specs.Firing.{at}
use Rattle.settling.specs.Firings.{Enough, FiresTimes}
use Rattle.settling.specs.Marks.{Visited}
use Rattle.settling.specs.Settlings.{Noted, Tallied}
use Rattle.settling.proofs.Ready.{enough_can, can_enough}

-- as often as the height allows
pub times_fit : (d h t limit : ℕ) → t ≡ min limit (h / d) → d * t ≤ h
times_fit d h t limit e =
    let le : t ≤ h / d = omega (arith, min-le_right limit (h / d)) in
    omega (arith, mul-le-mul_left d le, mul-div-le h d)

-- and no less often, unless the limit is reached
times_rest : (d h t limit : ℕ) → 1 ≤ d → t ≡ min limit (h / d) → t < limit → h < d * t + d
times_rest d h t limit some e less =
    let is : t ≡ h / d = elim (cases_lt limit (h / d)) [
      | inl lt ↦ let le : limit ≤ h / d = omega arith in absurd (omega (arith, min-eq_left le))
      | inr le ↦ e ∙ min-eq_right le
    ] in
    let pos : 0 < d = omega arith in
    omega (arith, lt-mul-div-succ h pos, mul-add d (h / d) 1, mul-one d, ap (λ k. d * k) is)

some_times : (d h t limit : ℕ) → 1 ≤ d → d ≤ h → 1 ≤ limit → t ≡ min limit (h / d) → 1 ≤ t
some_times d h t limit some enough lim e =
    elim (cases_lt 0 t) [
      | inl l ↦ l
      | inr z ↦
          let none : t ≡ 0 = omega arith in
          absurd (omega (arith, times_rest d h t limit some e (omega arith), ap (λ k. d * k) none, mul-zero d))
    ]

pub visited_some : (b : Shape) (v limit : ℕ) (xs ys : List ℕ) (t : ℕ) → 1 ≤ limit → Enough (deg b v) (at xs v) → t ≡ min limit (at xs v / deg b v)
    → FiresTimes b v t (at xs) (at ys) → Visited b v limit xs ys t
visited_some b v limit xs ys t lim enough e f = record {
  fires = f;
  linked = λ l. enough.0;
  within = omega (arith, min-le_left limit (at xs v / deg b v));
  rest = λ less can. omega (arith, f.gives, times_rest (deg b v) (at xs v) t limit enough.0 e less, can_enough b (at ys) v can);
  idle = λ z. absurd (omega (arith, some_times (deg b v) (at xs v) t limit enough.0 enough.1 lim e));
}

pub visited_none : (b : Shape) (v limit : ℕ) (xs : List ℕ) → (Enough (deg b v) (at xs v) → ⊥) → Visited b v limit xs xs 0
visited_none b v limit xs not = record {
  fires = record { gives = omega (arith, mul-zero (deg b v)); gets = λ u l ne. omega (arith, mul-zero (b.m v u)) };
  linked = λ l. absurd (omega arith);
  within = omega arith;
  rest = λ less can. not (can_enough b (at xs) v can);
  idle = λ z. refl;
}

-- a run speaks of the sites on the board alone
run_same : (b : Shape) (c : ℕ → ℕ) {h w : ℕ → ℕ} (h' w' : ℕ → ℕ) → Run b c h w → ((v : ℕ) → v < b.sites → h' v ≡ h v) → ((v : ℕ) → v < b.sites → w' v ≡ w v) → Run b c h' w'
run_same b c h' w' (begin at none) eh ew = begin (λ v l. eh v l ∙ at v l) (λ v l. ew v l ∙ none v l)
run_same b c h' w' (fire x r f k) eh ew =
    fire x r
    (record { on = f.on; can = f.can; gives = ap (λ i. i + deg b x) (eh x f.on) ∙ f.gives; gets = λ u l ne. eh u l ∙ f.gets u l ne })
    (record { one_more = ew x f.on ∙ k.one_more; others = λ u l ne. ew u l ∙ k.others u l ne })

-- several firings of one site in a row are a legal run
pub run_times : (b : Shape) (c : ℕ → ℕ) (v k : ℕ) → v < b.sites → 1 ≤ deg b v → {h w : ℕ → ℕ} (h' w' : ℕ → ℕ) → Run b c h w → FiresTimes b v k h h'
    → w' v ≡ w v + k → ((u : ℕ) → u < b.sites → u ≢ v → w' u ≡ w u) → Run b c h' w'
run_times b c v zero on linked {h} {w} h' w' r f wv wu =
    run_same b c h' w' r
    (λ u l. elim (ℕ_discrete u v) [ yes p ↦ subst (λ i. h' i ≡ h i) (sym p) (omega (arith, f.gives, mul-zero (deg b v))) | no q ↦ omega (arith, f.gets u l q, mul-zero (b.m v u)) ])
    (λ u l. elim (ℕ_discrete u v) [ yes p ↦ subst (λ i. w' i ≡ w i) (sym p) (omega arith) | no q ↦ wu u l q ])
run_times b c v (suc k) on linked {h} {w} h' w' r f wv wu =
    let d = deg b v in
    let more = mul-suc d k in
    let mid : ℕ → ℕ = λ u. cond (eqb u v) (h v - d * k) (h u + b.m v u * k) in
    let cnt : ℕ → ℕ = λ u. cond (eqb u v) (w v + k) (w u) in
    let here : mid v ≡ h v - d * k = cond-true (eqb v v) (h v - d * k) (h v + b.m v v * k) (eq-eqb v v refl) in
    let there : (u : ℕ) → u ≢ v → mid u ≡ h u + b.m v u * k = λ u ne. cond-false (eqb u v) (h v - d * k) (h u + b.m v u * k) (ne_eqb u v ne) in
    let once : cnt v ≡ w v + k = cond-true (eqb v v) (w v + k) (w v) (eq-eqb v v refl) in
    let others : (u : ℕ) → u ≢ v → cnt u ≡ w u = λ u ne. cond-false (eqb u v) (w v + k) (w u) (ne_eqb u v ne) in
    let all = f.gives in
    fire v (run_times b c v k on linked mid cnt r (record { gives = omega arith; gets = λ u l ne. there u ne }) once (λ u l ne. others u ne))
    (record {
      on = on;
      can = enough_can b mid v (linked, omega arith);
      gives = omega arith;
      gets = λ u l ne. omega (arith, f.gets u l ne, there u ne, mul-suc (b.m v u) k);
    })
    (record { one_more = omega arith; others = λ u l ne. wu u l ne ∙ sym (others u ne) })

pub tallied_none : (b : Shape) (c : ℕ → ℕ) (cs : List ℕ) → Tallied b c c cs cs 0
tallied_none b c cs = record {
  ran = record { counts = λ u. 0; run = begin (λ v l. refl) (λ v l. refl); total = sum_none b.sites (λ u. 0) (λ u l. refl) };
  long = refl;
  grown = λ v l on. omega arith;
}

pub tallied_more : (b : Shape) (c h h' : ℕ → ℕ) (cs cs' cs'' : List ℕ) (v t k : ℕ) → v < b.sites → 1 ≤ deg b v → Tallied b c h cs cs' k → FiresTimes b v t h h' → Noted v t cs' cs''
    → Tallied b c h' cs cs'' (k + t)
tallied_more b c h h' cs cs' cs'' v t k on linked r f n =
    let w = r.ran.counts in
    let w' : ℕ → ℕ = λ u. cond (eqb u v) (w v + t) (w u) in
    let here : w' v ≡ w v + t = cond-true (eqb v v) (w v + t) (w v) (eq-eqb v v refl) in
    let there : (u : ℕ) → u < b.sites → u ≢ v → w' u ≡ w u = λ u l ne. cond-false (eqb u v) (w v + t) (w u) (ne_eqb u v ne) in
    record {
      ran = record {
        counts = w';
        run = run_times b c v t on linked h' w' r.ran.run f here there;
        total = omega (arith, r.ran.total, sum_point b.sites w w' v t on here there);
      };
      long = n.long ∙ r.long;
      grown = λ u l o. elim (ℕ_discrete u v) [
        | yes p ↦ subst (λ i. at cs'' i ≡ at cs i + w' i) (sym p) (omega (arith, here, n.here (omega (arith, n.long, r.long)), r.grown v on (omega arith)))
        | no q ↦ omega (arith, n.others u q, there u l q, r.grown u l o)
      ];
    }
