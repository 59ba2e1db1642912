-- The steps of a wave.
use Rattle.std.proofs.Common.{◌≡◌, ℕ, ◌+◌, ◌*◌, ◌<◌, ◌≤◌, ltb, ◌≢◌, Bool, true, false, List, length, set, Ok, Err, Result, sym, refl, ap, ◌∙◌, subst, inl, inr, mul-zero, arith, length-set, get_or-set_other, get_or-set_same, le-ltb, lt-ltb, below_more}
use native.Mathlib.Decide.{ℕ_discrete}
use Rattle.std.specs.Bool.{MatchBool}
use Rattle.std.specs.Result.{IsOk}
use mir.Val.{bool_byte}
use Rattle.std.proofs.lemmas.Bool.{cases_lt, cond-true, cond-false}
use Rattle.refusal.specs.declared.Part.{Part}
use Rattle.refusal.specs.declared.Refusal.{Refusal}
use Rattle.refusal.specs.Table.{Passed}
use Rattle.refusal.proofs.Answers.{not_both}
use Rattle.board.specs.Shape.{Shape, Sound, sum_below}
use Rattle.board.specs.Sums.{sum_suc, sum_none, sum_same}
use Rattle.firing.specs.Firing.{at, CanFire, Fires, Counts, begin, fire}
use Rattle.firing.specs.Settling.{drained, Same}
use Rattle.firing.proofs.Action.{run_follows, follows_conserves}
use Rattle.firing.proofs.Runs.{run_same, drained_more}
use Rattle.settling.specs.Firings as settling
use Rattle.settling.specs.Firings.{LightNear}
use Rattle.settling.proofs.Spread.{low_all}
use Rattle.firing.proofs.Exist.{can_fire_dec}
use Rattle.bench.specs.Checks.{ReadyAt, Ready}
use Rattle.bench.specs.Waves.{Movable, WaveDone, upto, Waving}

-- a firing that no check refuses is made
pub fired_fires : (s : Shape) (xs ys : List ℕ) (v : ℕ) (part : Part) (r : Result (Unit {0}) Refusal) → Passed (settling.near_checks s xs v) → settling.FiredNear s xs ys v part r → Fires s v (at xs) (at ys)
fired_fires s xs ys v part (Ok u) p f = f.1
fired_fires s xs ys v part (Err e) p f = absurd (not_both (settling.near_checks s xs v) e.row e.place f.0.by p)

pub fired_ok : (s : Shape) (xs ys : List ℕ) (v : ℕ) (part : Part) (r : Result (Unit {0}) Refusal) → Passed (settling.near_checks s xs v) → settling.FiredNear s xs ys v part r → IsOk r
fired_ok s xs ys v part (Ok u) p f = refl
fired_ok s xs ys v part (Err e) p f = absurd (not_both (settling.near_checks s xs v) e.row e.place f.0.by p)

fire_passes : (s : Shape) (xs : List ℕ) (v : ℕ) → length xs ≡ s.sites → v < s.sites → CanFire s (at xs) v → ((u : ℕ) → at xs u ≤ 1000000) → Passed (settling.near_checks s xs v)
fire_passes s xs v sized on can low =
    (λ p w. w.1 sized, (λ p w. omega (arith, w.1.2, low w.1.0), (λ p w. omega (arith, w.1), (λ p w. w.1 can, tt))))

pub movable_passes : (s : Shape) (xs cs : List ℕ) (v : ℕ) → Movable s xs cs → v < s.sites → CanFire s (at xs) v → Passed (settling.near_checks s xs v)
movable_passes s xs cs v fit on can = fire_passes s xs v fit.sized on can (low_all xs 1000000 (omega (arith, fit.light, ap (λ n. sum_below n (at xs)) fit.sized)))

upto_below : (w : ℕ → ℕ) (v u : ℕ) → u < v → upto w v u ≡ w u
upto_below w v u l = cond-true (ltb u v) (w u) 0 (lt-ltb u v l)

upto_above : (w : ℕ → ℕ) (v u : ℕ) → v ≤ u → upto w v u ≡ 0
upto_above w v u l = cond-false (ltb u v) (w u) 0 (le-ltb u v l)

upto_more : (w : ℕ → ℕ) (v u : ℕ) → u ≢ v → upto w (v + 1) u ≡ upto w v u
upto_more w v u ne = elim (cases_lt u v) [
  | inl l ↦ omega (arith, upto_below w (v + 1) u (omega arith), upto_below w v u l)
  | inr l ↦ omega (arith, upto_above w (v + 1) u (omega arith), upto_above w v u l)
]

drained_none : (s : Shape) (w : ℕ → ℕ) → ((v : ℕ) → v < s.sites → w v ≡ 0) → drained s w ≡ 0
drained_none s w zero = sum_none s.sites (λ v. s.s v * w v) (λ v l. ap (λ k. s.s v * k) (zero v l) ∙ mul-zero (s.s v))

drained_like : (s : Shape) (w w' : ℕ → ℕ) → Same s w w' → drained s w ≡ drained s w'
drained_like s w w' same = sum_same s.sites _ _ (λ u l. ap (λ k. s.s u * k) (same u l))

-- a run with no more or fewer firings anywhere
done_same : (s : Shape) (h : ℕ → ℕ) (h' : ℕ → ℕ) (cs cs' : List ℕ) (w w' : ℕ → ℕ) (d : ℕ) → Same s w' w → WaveDone s h h' cs cs' w d → WaveDone s h h' cs cs' w' d
done_same s h h' cs cs' w w' d same r = record {
  run = run_same s h h' w' r.run (λ u l. refl) same;
  counted = λ u l. omega (arith, r.counted u l, same u l);
  long = r.long;
  drains = r.drains ∙ sym (drained_like s w' w same);
}

module _ (s : Shape) (h : ℕ → ℕ) (cs : List ℕ) (w : ℕ → ℕ) where
  pub wave_begins : (xs : List ℕ) → Same s (at xs) h → Waving s h cs w 0 xs cs 0
  wave_begins xs same = record {
    done = record {
      run = begin same (λ u l. upto_above w 0 u (omega arith));
      counted = λ u l. omega (arith, upto_above w 0 u (omega arith));
      long = refl;
      drains = sym (drained_none s (upto w 0) (λ u l. upto_above w 0 u (omega arith)));
    };
    higher = λ u l on. omega (arith, same u on);
  }

  pub wave_skips : (v : ℕ) (xs cs' : List ℕ) (d : ℕ) → w v ≡ 0 → Waving s h cs w v xs cs' d → Waving s h cs w (v + 1) xs cs' d
  wave_skips v xs cs' d none r = record {
    done = done_same s h (at xs) cs cs' (upto w v) (upto w (v + 1)) d (λ u l. elim (ℕ_discrete u v) [
      | yes p ↦ subst (λ i. upto w (v + 1) i ≡ upto w v i) (sym p) (omega (arith, upto_below w (v + 1) v (omega arith), upto_above w v v (omega arith)))
      | no q ↦ upto_more w v u q
    ]) r.done;
    higher = λ u l on. r.higher u (omega arith) on;
  }

  pub wave_can : (v : ℕ) (xs cs' : List ℕ) (d : ℕ) → v < s.sites → CanFire s h v → Waving s h cs w v xs cs' d → CanFire s (at xs) v
  wave_can v xs cs' d on can r = (can.0, omega (arith, can.1, r.higher v (omega arith) on))

  pub wave_fires : Sound s → (v : ℕ) (xs ys cs' : List ℕ) (d : ℕ) → length cs ≡ s.sites → w v ≡ 1 → Waving s h cs w v xs cs' d → Fires s v (at xs) (at ys)
      → Waving s h cs w (v + 1) ys (set cs' v (at cs' v + 1)) (d + s.s v)
  wave_fires sound v xs ys cs' d sized one r f =
      let counts : Counts s v (upto w v) (upto w (v + 1)) = record {
        one_more = omega (arith, upto_below w (v + 1) v (omega arith), upto_above w v v (omega arith));
        others = λ u l ne. upto_more w v u ne;
      } in
      let inside : v < length cs' = omega (arith, f.on, r.done.long) in
      record {
        done = record {
          run = fire v r.done.run f counts;
          counted = λ u l. elim (ℕ_discrete u v) [
            | yes p ↦
                subst (λ i. at (set cs' v (at cs' v + 1)) i ≡ at cs i + upto w (v + 1) i) (sym p)
                (omega (arith, get_or-set_same cs' v (at cs' v + 1) 0 inside, r.done.counted v f.on, counts.one_more))
            | no q ↦ omega (arith, get_or-set_other cs' v u (at cs' v + 1) 0 q, r.done.counted u l, counts.others u l q)
          ];
          long = length-set cs' v (at cs' v + 1) ∙ r.done.long;
          drains = omega (arith, r.done.drains, drained_more s (upto w v) (upto w (v + 1)) v f.on counts);
        };
        higher = λ u l on. omega (arith, r.higher u (omega arith) on, f.gets u on (omega arith));
      }

  pub wave_ends : (v : ℕ) (xs cs' : List ℕ) (d : ℕ) → s.sites ≤ v → Waving s h cs w v xs cs' d → WaveDone s h (at xs) cs cs' w d
  wave_ends v xs cs' d all r = done_same s h (at xs) cs cs' (upto w v) w d (λ u l. sym (upto_below w v u (omega arith))) r.done

  -- grains do not grow on the way
  pub wave_light : Sound s → (v : ℕ) (xs cs' : List ℕ) (d : ℕ) → Waving s h cs w v xs cs' d → sum_below s.sites h ≤ 1000000 → (sum_below s.sites (at xs) ≤ 1000000) × (d ≤ 1000000)
  wave_light sound v xs cs' d r light =
      let kept = follows_conserves s h (at xs) (upto w v) (run_follows s sound h r.done.run) in
      (omega arith, omega (arith, r.done.drains))

  pub wave_few : (v : ℕ) (xs cs' : List ℕ) (d : ℕ) → v < s.sites → Waving s h cs w v xs cs' d → ((u : ℕ) → at cs u ≤ 1000000000000) → at cs' v ≤ 1000000000000
  wave_few v xs cs' d on r few = omega (arith, r.done.counted v on, upto_above w v v (omega arith), few v)

-- a mark tells whether a site can fire
pub ready_one : (s : Shape) (h : ℕ → ℕ) (v k : ℕ) → ReadyAt s h v k → k ≡ 1 → CanFire s h v
ready_one s h v k r one = elim (can_fire_dec s h v) [ yes can ↦ can | no not ↦ absurd (omega (arith, r.1 not)) ]

pub ready_none : (s : Shape) (h : ℕ → ℕ) (v k : ℕ) → ReadyAt s h v k → (k ≡ 1 → ⊥) → k ≡ 0
ready_none s h v k r not-one = elim (can_fire_dec s h v) [ yes can ↦ absurd (not-one (r.0 can)) | no not ↦ r.1 not ]

pub waving_at : (s : Shape) (h : ℕ → ℕ) (cs : List ℕ) (w : ℕ → ℕ) (v : ℕ) (xs xs' cs' cs'' : List ℕ) (d d' : ℕ) → xs' ≡ xs → cs'' ≡ cs' → d' ≡ d → Waving s h cs w v xs cs' d → Waving s h cs w v xs' cs'' d'
waving_at s h cs w v xs xs' cs' cs'' d d' ex ec ed r =
    subst (λ e. Waving s h cs w v xs' cs'' e) (sym ed) (subst (λ e. Waving s h cs w v xs' e d) (sym ec) (subst (λ e. Waving s h cs w v e cs' d) (sym ex) r))

-- there is one list of the sites that can fire
pub ready_same : (s : Shape) (h f f' : ℕ → ℕ) → Ready s h f → Ready s h f' → sum_below s.sites f ≡ sum_below s.sites f'
ready_same s h f f' one two = sum_same s.sites f f' (λ v l. elim (can_fire_dec s h v) [
  | yes can ↦ (one v l).0 can ∙ sym ((two v l).0 can)
  | no not ↦ (one v l).1 not ∙ sym ((two v l).1 not)
])

-- one more site is marked, and counted
pub marked_more : (s : Shape) (h : ℕ → ℕ) (ms : List ℕ) (v k n : ℕ) (can : Bool) → v < length ms → MatchBool can (CanFire s h v) (CanFire s h v → ⊥) → k ≡ bool_byte can
    → ((u : ℕ) → u < v → ReadyAt s h u (at ms u)) × (n ≡ sum_below v (at ms)) × (n ≤ v)
    → ((u : ℕ) → u < v + 1 → ReadyAt s h u (at (set ms v k) u)) × (n + k ≡ sum_below (v + 1) (at (set ms v k))) × (n + k ≤ v + 1)
marked_more s h ms v k n can inside is byte before = (
  below_more _ _ (λ u l. subst (ReadyAt s h u) (sym (get_or-set_other ms v u k 0 (omega arith))) (before.0 u l)) (subst (ReadyAt s h v) (sym here) (ready can is byte)),
  omega (arith, before.1, sum_suc v (at (set ms v k)), sum_same v (at (set ms v k)) (at ms) (λ u l. get_or-set_other ms v u k 0 (omega arith)), here),
  omega (arith, before.2, one can byte),
)
  where
    here : at (set ms v k) v ≡ k
    here = get_or-set_same ms v k 0 inside

    ready : (c : Bool) → MatchBool c (CanFire s h v) (CanFire s h v → ⊥) → k ≡ bool_byte c → ReadyAt s h v k
    ready true can e = (λ q. e, λ cannot. absurd (cannot can))
    ready false cannot e = (λ q. absurd (cannot q), λ q. e)

    one : (c : Bool) → k ≡ bool_byte c → k ≤ 1
    one true e = omega (arith, e)
    one false e = omega (arith, e)
