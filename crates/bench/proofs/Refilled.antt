-- A bench whose heights and counts were written anew by legal firings.
use Rattle.std.proofs.Common.{◌≡◌, ℕ, ◌+◌, ◌-◌, ◌<◌, ◌≤◌, min, eqb, List, length, set, vec_items, sym, refl, ap, ◌∙◌, subst, inl, inr, arith, length-set, eqb-true}
use native.Mathlib.Nat.{min-le_right}
use borrow.Author.Tests.{eqb-false}
use Rattle.std.specs.Vec.{with_items}
use Rattle.std.proofs.lemmas.List.{with_items_is, get_or_past}
use Rattle.std.proofs.lemmas.Bool.{cases_lt}
use Rattle.board.specs.Shape.{Shape, Sound, sum_below}
use Rattle.board.specs.Sums.{sum_term}
use Rattle.firing.specs.Firing.{at, Fires, Run}
use Rattle.firing.specs.Settling.{drained}
use Rattle.firing.proofs.Action.{run_follows, follows_conserves}
use Rattle.bench.specs.declared.Phase.{Phase}
use Rattle.bench.specs.declared.Phase.TheVariants.{Open}
use Rattle.bench.specs.declared.Bench.{Bench}
use Rattle.bench.specs.States.{State, state, Conserved}
use Rattle.bench.specs.declared.Word.{Word}
use Rattle.bench.specs.Answers.{Moves, once, Number, RunDone}
use Rattle.settling.specs.declared.settle.Outcome.{Outcome}
use Rattle.settling.specs.Settlings.{Ended, Counted}
use Rattle.bench.specs.Waves.{WaveDone, WordFor}
use Rattle.bench.proofs.Totals.{moved_conserved, moved_counted, moved_grown, once_run, once_total, once_drained, once_counted, run_number, run_says}

-- what is known before firings on the bench b
pub no_count_higher : (b : Bench) (cs : List ℕ) → cs ≡ vec_items b.counts → (u : ℕ) → at cs u ≤ 1000000000000
no_count_higher b cs e u =
    omega (arith, ap (λ xs. at xs u) e, low)
  where
    low : at (vec_items b.counts) u ≤ 1000000000000
    low = elim (cases_lt u b.heights.len) [
      | inl l ↦ omega (arith, sum_term b.heights.len u (at (vec_items b.counts)) l, b.counted, b.under, b.most)
      | inr l ↦ omega (arith, get_or_past (vec_items b.counts) u 0 (omega (arith, b.counts.ok.0, b.counts_sized)))
    ]

pub grains_light : (b : Bench) (n : ℕ) (xs : List ℕ) → n ≡ b.heights.len → xs ≡ vec_items b.heights → sum_below n (at xs) ≤ 1000000
grains_light b n xs size e = omega (arith, ap (λ k. sum_below k (at xs)) size, ap (λ ys. sum_below b.heights.len (at ys)) e, b.conserved, b.light)

-- b with new heights ws and counts ks
abbrev pub moved : Bench → List ℕ → List ℕ → Phase → ℕ → ℕ → State
moved b ws ks next f d = record {
  heights = vec_items (with_items b.heights ws);
  counts = vec_items (with_items b.counts ks);
  opened = vec_items b.opened;
  phase = next;
  number = b.number;
  last = b.last;
  grains = b.grains;
  drained = d;
  drained_before = b.drained_before;
  fired = f;
  ceiling = b.ceiling;
}

-- legal firings, w v of each site v, have written the heights ws for xs and the counts ks for cs; f firings are now made, and d grains drained
pub record WrittenAnew (s : Shape) (b : Bench) (xs cs ws ks : List ℕ) (w : ℕ → ℕ) (f d : ℕ) : Type 0 where
  pub sized : b.heights.len ≡ s.sites
  pub xs_are : xs ≡ vec_items b.heights
  pub cs_are : cs ≡ vec_items b.counts
  pub run : Run s (at xs) (at ws) w
  pub long : length ws ≡ length xs
  pub counts_long : length ks ≡ length cs
  pub counted : (v : ℕ) → v < s.sites → at ks v ≡ at cs v + w v
  pub fired : f ≡ b.fired + sum_below s.sites w
  pub drains : d ≡ b.drained + drained s w
  pub under : f ≤ b.ceiling

module _ {s : Shape} (sound : Sound s) {b : Bench} {xs cs ws ks : List ℕ} {w : ℕ → ℕ} {f d : ℕ} (a : WrittenAnew s b xs cs ws ks w f d) where
  heights_are : vec_items (with_items b.heights ws) ≡ ws
  heights_are = with_items_is b.heights ws (omega (arith, a.long, ap length a.xs_are, b.heights.ok.0))

  counts_are : vec_items (with_items b.counts ks) ≡ ks
  counts_are = with_items_is b.counts ks (omega (arith, a.counts_long, ap length a.cs_are, b.counts.ok.0))

  run_there : Run s (at (vec_items b.heights)) (at (vec_items (with_items b.heights ws))) w
  run_there = subst (λ l. Run s (at l) (at (vec_items (with_items b.heights ws))) w) a.xs_are (subst (λ l. Run s (at xs) (at l) w) (sym heights_are) a.run)

  counted_there : (v : ℕ) → v < s.sites → at (vec_items (with_items b.counts ks)) v ≡ at (vec_items b.counts) v + w v
  counted_there v l = omega (arith, a.counted v l, ap (λ l. at l v) counts_are, ap (λ l. at l v) a.cs_are)

  -- grains are kept
  kept : sum_below b.heights.len (at (vec_items (with_items b.heights ws))) + d ≡ b.grains
  kept = moved_conserved s sound b.heights.len (vec_items b.heights) (vec_items (with_items b.heights ws)) w b.drained d b.grains a.sized run_there b.conserved a.drains

  -- what the bench's type asks of it
  pub moved_ghosts : record {
    counts_sized : b.counts.len ≡ b.heights.len;
    opened_sized : b.opened.len ≡ b.heights.len;
    conserved : sum_below b.heights.len (at (vec_items (with_items b.heights ws))) + d ≡ b.grains;
    light : b.grains ≤ 1000000;
    counted : sum_below b.heights.len (at (vec_items (with_items b.counts ks))) ≡ f;
    under : f ≤ b.ceiling;
    most : b.ceiling ≤ 1000000000000;
    grown : (u : ℕ) → at (vec_items b.opened) u ≤ at (vec_items (with_items b.counts ks)) u;
    earlier : b.drained_before ≤ d;
    numbered : b.number ≤ b.grains;
  }
  moved_ghosts = record {
    counts_sized = b.counts_sized;
    opened_sized = b.opened_sized;
    conserved = kept;
    light = b.light;
    counted = moved_counted s b.heights.len (vec_items b.counts) (vec_items (with_items b.counts ks)) w b.fired f a.sized counted_there b.counted a.fired;
    under = a.under;
    most = b.most;
    grown = moved_grown s (vec_items b.counts) (vec_items (with_items b.counts ks)) (vec_items b.opened) w (omega (arith, b.counts.ok.0, b.counts_sized, a.sized)) counted_there b.grown;
    earlier = omega (arith, a.drains, b.earlier);
    numbered = b.numbered;
  }

  pub moved_conserves : (next : Phase) → Conserved (moved b ws ks next f d)
  moved_conserves next =
      ap (λ n. sum_below n (at (vec_items (with_items b.heights ws))) + d) (ap length heights_are ∙ omega (arith, a.long, ap length a.xs_are, b.heights.ok.0))
      ∙ kept

  pub moved_moves : (next : Phase) → b.phase ≡ Open → next ≡ Open → Moves s (state b) (moved b ws ks next f d) w
  moved_moves next was is = record {
    run = run_there;
    long = ap length heights_are ∙ omega (arith, a.long, ap length a.xs_are);
    counted = counted_there;
    counts_long = ap length counts_are ∙ omega (arith, a.counts_long, ap length a.cs_are);
    fired = a.fired;
    drains = a.drains;
    was_open = was;
    is_open = is;
    opened = refl;
    number = refl;
    last = refl;
    grains = refl;
    drained_before = refl;
    ceiling = refl;
  }

-- one firing
pub fire_writes : (s : Shape) (b : Bench) (xs cs ws ks : List ℕ) (v r : ℕ) → b.heights.len ≡ s.sites → v < s.sites → xs ≡ vec_items b.heights → cs ≡ vec_items b.counts
    → Fires s v (at xs) (at ws) → length ws ≡ length xs → ks ≡ set cs v (at cs v + 1) → r ≡ s.s v → b.fired < b.ceiling
    → WrittenAnew s b xs cs ws ks (once v) (b.fired + 1) (b.drained + r)
fire_writes s b xs cs ws ks v r sized on xs_are cs_are fires long set_is drains under =
    let inside : v < length cs = omega (arith, ap length cs_are, b.counts.ok.0, b.counts_sized) in
    record {
      sized = sized;
      xs_are = xs_are;
      cs_are = cs_are;
      run = once_run s (at xs) (at ws) v fires;
      long = long;
      counts_long = ap length set_is ∙ length-set cs v (at cs v + 1);
      counted = λ u l. ap (λ l. at l u) set_is ∙ once_counted s cs v inside u;
      fired = omega (arith, once_total s v on);
      drains = omega (arith, once_drained s v on);
      under = omega arith;
    }

-- a wave
pub wave_writes : (s : Shape) (b : Bench) (xs cs ws ks : List ℕ) (w : ℕ → ℕ) (k d : ℕ) → b.heights.len ≡ s.sites → xs ≡ vec_items b.heights → cs ≡ vec_items b.counts
    → WaveDone s (at xs) (at ws) cs ks w d → length ws ≡ length xs → k ≡ sum_below s.sites w → k ≤ b.ceiling - b.fired
    → WrittenAnew s b xs cs ws ks w (b.fired + k) (b.drained + d)
wave_writes s b xs cs ws ks w k d sized xs_are cs_are done long number within = record {
  sized = sized;
  xs_are = xs_are;
  cs_are = cs_are;
  run = done.run;
  long = long;
  counts_long = done.long;
  counted = done.counted;
  fired = omega arith;
  drains = omega (arith, done.drains);
  under = omega (arith, b.under);
}

-- a run; the grains drained are those that no longer lie on the sites
pub run_writes : {s : Shape} (sound : Sound s) (b : Bench) (xs cs ws ks : List ℕ) (limit budget t : ℕ) (o : Outcome) → b.heights.len ≡ s.sites → xs ≡ vec_items b.heights → cs ≡ vec_items b.counts
    → limit ≡ min budget (b.ceiling - b.fired) → (e : Counted s (at xs) (at ws) limit o cs ks) → length ws ≡ length xs → t ≡ sum_below s.sites (at ws)
    → WrittenAnew s b xs cs ws ks e.0.counts (b.fired + o.fired) (b.grains - t)
run_writes {s} sound b xs cs ws ks limit budget t o sized xs_are cs_are lim e long total =
    let before : sum_below s.sites (at xs) + b.drained ≡ b.grains = ap (λ l. sum_below s.sites (at l) + b.drained) xs_are ∙ ap (λ n. sum_below n (at (vec_items b.heights)) + b.drained) (sym sized) ∙ b.conserved in
    record {
      sized = sized;
      xs_are = xs_are;
      cs_are = cs_are;
      run = e.0.run;
      long = long;
      counts_long = e.1;
      counted = λ v l. e.2 v l (omega (arith, ap length cs_are, b.counts.ok.0, b.counts_sized));
      fired = omega (arith, e.0.total);
      drains = omega (arith, e.0.kept);
      under = omega (arith, e.0.within, b.under, min-le_right budget (b.ceiling - b.fired));
    }

-- a wave drains no more than there is
pub wave_drains : {s : Shape} → Sound s → (h h' : ℕ → ℕ) (cs ks : List ℕ) (w : ℕ → ℕ) (d : ℕ) → WaveDone s h h' cs ks w d → sum_below s.sites h ≤ 1000000 → d ≤ 1000000
wave_drains {s} sound h h' cs ks w d done light = omega (arith, done.drains, follows_conserves s h h' w (run_follows s sound h done.run))

-- the grains that lie on the sites after a run
pub run_lies : {s : Shape} → Sound s → (b : Bench) (xs ws zs : List ℕ) (w : ℕ → ℕ) → b.heights.len ≡ s.sites → xs ≡ vec_items b.heights → Run s (at xs) (at ws) w → length ws ≡ length xs
    → zs ≡ vec_items (with_items b.heights ws) → (sum_below (length zs) (at zs) ≡ sum_below s.sites (at ws)) × (sum_below s.sites (at ws) ≤ b.grains)
run_lies {s} sound b xs ws zs w sized xs_are run long zs-are =
    let same : zs ≡ ws = zs-are ∙ with_items_is b.heights ws (omega (arith, ap length xs_are, b.heights.ok.0)) in
    let size : length zs ≡ s.sites = omega (arith, ap length same, ap length xs_are, b.heights.ok.0) in
    let before : sum_below s.sites (at xs) + b.drained ≡ b.grains = ap (λ l. sum_below s.sites (at l) + b.drained) xs_are ∙ ap (λ n. sum_below n (at (vec_items b.heights)) + b.drained) (sym sized) ∙ b.conserved in (
      ap (λ l. sum_below (length zs) (at l)) same ∙ ap (λ n. sum_below n (at ws)) size,
      omega (arith, follows_conserves s (at xs) (at ws) w (run_follows s sound (at xs) run)),
    )

-- what a run answers
pub run_answers : {s : Shape} → Sound s → (b : Bench) (xs cs ws ks : List ℕ) (budget limit t : ℕ) (o : Outcome) (next : Phase) (word : Word) → b.heights.len ≡ s.sites → xs ≡ vec_items b.heights → cs ≡ vec_items b.counts
    → limit ≡ min budget (b.ceiling - b.fired) → (e : Counted s (at xs) (at ws) limit o cs ks) → length ws ≡ length xs → t ≡ sum_below s.sites (at ws) → b.phase ≡ Open → next ≡ Open
    → WordFor o.still (eqb (b.fired + o.fired) b.ceiling) word → RunDone s (state b) (moved b ws ks next (b.fired + o.fired) (b.grains - t)) budget o.fired word
run_answers {s} sound b xs cs ws ks budget limit t o next word sized xs_are cs_are lim e long total was is says =
    let anew = run_writes sound b xs cs ws ks limit budget t o sized xs_are cs_are lim e long total in
    let y = moved b ws ks next (b.fired + o.fired) (b.grains - t) in
    let there = with_items_is b.heights ws (omega (arith, ap length xs_are, b.heights.ok.0)) in
    record {
      counts = e.0.counts;
      moves = moved_moves sound anew next was is;
      total = e.0.total;
      number = subst (λ l. Number s (at l) budget (b.ceiling - b.fired) o.fired) xs_are (run_number s (at xs) (at ws) budget (b.ceiling - b.fired) limit o lim e.0);
      says = run_says s (at xs) y budget (b.ceiling - b.fired) limit o (eqb (b.fired + o.fired) b.ceiling) word lim (subst (λ l. Ended s (at xs) (at l) limit o) (sym there) e.0)
          (λ t. eqb-true (b.fired + o.fired) b.ceiling t)
          (λ f. let ne = eqb-false (b.fired + o.fired) b.ceiling f in let le : b.fired + o.fired ≤ b.ceiling = anew.under in let l : b.fired + o.fired < b.ceiling = less (b.fired + o.fired) b.ceiling ne le in (omega arith, l))
          says;
    }
  where
    less : (m n : ℕ) → (m ≡ n → ⊥) → m ≤ n → m < n
    less m n ne le = elim (cases_lt m n) [ inl l ↦ l | inr l ↦ absurd (ne (omega arith)) ]
