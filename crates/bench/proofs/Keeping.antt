-- Which steps of a bench keep the law, and what it says of a record.
use Rattle.std.proofs.Common.{◌≡◌, ℕ, ◌+◌, ◌-◌, ◌*◌, ◌<◌, cond, eqb, ltb, List, [], ◌∷◌, length, set, sym, refl, ap, ◌∙◌, subst, mul-zero, mul-add, arith, length-set, get_or-set_other, get_or-set_same}
use native.Mathlib.Decide.{ℕ_discrete}
use Rattle.std.proofs.lemmas.Bool.{cond-true, cond-false, eq-eqb, ne_eqb}
use Rattle.board.specs.Shape.{Shape, Sound, deg, sum_below}
use Rattle.board.specs.Sums.{sum_same, sum_plus, sum_none, sum_at}
use Rattle.firing.specs.Firing.{at, Still, Run, begin}
use Rattle.firing.specs.Settling.{inflow, drained, Settles, Follows, AtMost, Same, Least}
use Rattle.firing.specs.Reaching.{AllReach}
use Rattle.firing.proofs.Action.{inflow_same, run_follows, least_action, settles_fewer, still_settles, run_least}
use Rattle.firing.proofs.Runs.{run_then, run_same}
use Rattle.firing.proofs.Reach.{reach_linked}
use Rattle.bench.specs.declared.Phase.{Phase}
use Rattle.bench.specs.declared.Phase.TheVariants.{Resting, Open}
use Rattle.bench.specs.declared.GrainDrop.{GrainDrop}
use Rattle.bench.specs.declared.Record.{Record}
use Rattle.bench.specs.States.{State, since, phased, dropped}
use Rattle.bench.specs.Avalanches.{drop_on, loaded, Opening, Before, Law, Recorded}
use Rattle.bench.specs.Answers.{Moves, Begun, Written}

resting_open : Open ≡ Resting → ⊥
resting_open e = let z : ◌≡◌ {A = ℕ} 0 1 = cc in omega arith

module _ (s : Shape) where
  -- two lists of counts, one after the other
  inflow_plus : (w w' : ℕ → ℕ) (v : ℕ) → inflow s (λ u. w u + w' u) v ≡ inflow s w v + inflow s w' v
  inflow_plus w w' v = sum_same s.sites _ _ (λ u l. mul-add (s.m u v) (w u) (w' u)) ∙ sum_plus s.sites (λ u. s.m u v * w u) (λ u. s.m u v * w' u)

  drained_plus : (w w' : ℕ → ℕ) → drained s (λ u. w u + w' u) ≡ drained s w + drained s w'
  drained_plus w w' = sum_same s.sites _ _ (λ u l. mul-add (s.s u) (w u) (w' u)) ∙ sum_plus s.sites (λ u. s.s u * w u) (λ u. s.s u * w' u)

  drained_same : (w w' : ℕ → ℕ) → Same s w w' → drained s w ≡ drained s w'
  drained_same w w' same = sum_same s.sites _ _ (λ u l. ap (λ k. s.s u * k) (same u l))

  follows_then : (c h h' w w' w'' : ℕ → ℕ) → Follows s c w h → Follows s h w' h' → Same s w'' (λ v. w v + w' v) → Follows s c w'' h'
  follows_then c h h' w w' w'' one two sum v l =
      let k : deg s v * w'' v ≡ deg s v * w v + deg s v * w' v = ap (λ i. deg s v * i) (sum v l) ∙ mul-add (deg s v) (w v) (w' v) in
      omega (arith, one v l, two v l, inflow_same s w'' (λ u. w u + w' u) sum v, inflow_plus w w' v)

  -- what settles the start, less what has fired, settles the heights that follow
  settles_left : (c h w w' : ℕ → ℕ) → Follows s c w h → Settles s c w' → AtMost s w w' → Settles s h (λ v. w' v - w v)
  settles_left c h w w' follows settles le v l =
      let d : ℕ → ℕ = λ u. w' u - w u in
      let all : Same s w' (λ u. w u + d u) = λ u l. omega (arith, le u l) in
      let k : deg s v * w' v ≡ deg s v * w v + deg s v * d v = ap (λ i. deg s v * i) (all v l) ∙ mul-add (deg s v) (w v) (d v) in
      omega (arith, follows v l, settles v l, inflow_same s w' (λ u. w u + d u) all v, inflow_plus w d v)

  -- legal firings keep the law
  pub law_moves : Sound s → (start : ℕ → ℕ) (ds : List GrainDrop) (x y : State) (w : ℕ → ℕ) → Moves s x y w → Law s start ds x → Law s start ds y
  law_moves sound start ds x y w m law =
      let follows = run_follows s sound (at x.heights) m.run in
      let opened : (v : ℕ) → at y.opened v ≡ at x.opened v = λ v. ap (λ o. at o v) m.opened in
      record {
        reach = law.reach;
        sized = m.long ∙ law.sized;
        grains = m.grains ∙ law.grains;
        follows = follows_then (loaded start ds) (at x.heights) (at y.heights) (at x.counts) w (at y.counts) law.follows follows m.counted;
        never_more = λ w' settles v l.
            let before = law.never_more w' settles in
            omega (
              arith,
              m.counted v l,
              before v l,
              least_action s sound (at x.heights) (λ u. w' u - at x.counts u) (settles_left (loaded start ds) (at x.heights) (at x.counts) w' law.follows settles before) m.run v l,
            );
        drains = omega (arith, m.drains, law.drains, drained_same (at y.counts) (λ u. at x.counts u + w u) m.counted, drained_plus (at x.counts) w);
        before = subst (λ o. Before s start ds (at o)) (sym m.opened) law.before;
        drains_before = m.drained_before ∙ law.drains_before ∙ ap (λ o. drained s (at o)) (sym m.opened);
        grown = λ v l. omega (arith, opened v, law.grown v l, m.counted v l);
        avalanche = let a = law.avalanche in (a.0, a.1, run_then s a.0 a.2 m.run (since y) (λ v l. omega (arith, opened v, law.grown v l, m.counted v l)));
        rest = λ e. absurd (resting_open (sym m.is_open ∙ e));
        number = m.number ∙ law.number;
        last = m.last ∙ law.last;
      }

  -- another phase keeps the law; a bench comes to rest when still
  pub law_phased : (start : ℕ → ℕ) (ds : List GrainDrop) (x : State) (p : Phase) → (p ≡ Resting → Still s (at x.heights)) → Law s start ds x → Law s start ds (phased x p)
  law_phased start ds x p still law = record {
    reach = law.reach;
    sized = law.sized;
    grains = law.grains;
    follows = law.follows;
    never_more = law.never_more;
    drains = law.drains;
    before = law.before;
    drains_before = law.drains_before;
    grown = law.grown;
    avalanche = law.avalanche;
    rest = still;
    number = law.number;
    last = law.last;
  }

  -- the counts of still heights are the least
  law_least : Sound s → (start : ℕ → ℕ) (ds : List GrainDrop) (x : State) → Law s start ds x → Still s (at x.heights) → Least s (loaded start ds) (at x.counts)
  law_least sound start ds x law still = record {
    settles = still_settles s (reach_linked s law.reach) (loaded start ds) (at x.heights) (at x.counts) law.follows still;
    least = law.never_more;
  }

  -- the heights after a drop
  drop_at : (xs : List ℕ) (d : GrainDrop) → d.site < length xs → (v : ℕ) → at (set xs d.site (at xs d.site + d.grains)) v ≡ at xs v + drop_on d v
  drop_at xs d on v = elim (ℕ_discrete v d.site) [
    | yes p ↦
        subst (λ u. at (set xs d.site (at xs d.site + d.grains)) u ≡ at xs u + drop_on d u) (sym p)
        (get_or-set_same xs d.site (at xs d.site + d.grains) 0 on ∙ ap (λ k. at xs d.site + k) (sym (cond-true (eqb d.site d.site) d.grains 0 (eq-eqb d.site d.site refl))))
    | no q ↦
        get_or-set_other xs d.site v (at xs d.site + d.grains) 0 q
        ∙ omega (arith, cond-false (eqb v d.site) d.grains 0 (ne_eqb v d.site q))
  ]

  drop_total : (d : GrainDrop) → d.site < s.sites → sum_below s.sites (drop_on d) ≡ d.grains
  drop_total d on = sum_same s.sites _ _ (λ v l. flip v) ∙ sum_at s.sites d.site d.grains on
    where
      flip : (v : ℕ) → drop_on d v ≡ cond (eqb d.site v) d.grains 0
      flip v = elim (ℕ_discrete v d.site) [
        | yes p ↦ cond-true (eqb v d.site) d.grains 0 (eq-eqb v d.site p) ∙ sym (cond-true (eqb d.site v) d.grains 0 (eq-eqb d.site v (sym p)))
        | no q ↦ cond-false (eqb v d.site) d.grains 0 (ne_eqb v d.site q) ∙ sym (cond-false (eqb d.site v) d.grains 0 (ne_eqb d.site v (λ e. q (sym e))))
      ]

  -- a drop on a resting bench keeps the law
  pub law_dropped : Sound s → (start : ℕ → ℕ) (ds : List GrainDrop) (x : State) (d : GrainDrop) → x.phase ≡ Resting → d.site < s.sites → Law s start ds x → Law s start (d ∷ ds) (dropped x d)
  law_dropped sound start ds x d resting on law =
      let still = law.rest resting in
      let least = law_least sound start ds x law still in
      let add = drop_at x.heights d (omega (arith, law.sized)) in
      record {
        reach = law.reach;
        sized = length-set x.heights d.site (at x.heights d.site + d.grains) ∙ law.sized;
        grains = omega (arith, law.grains, sum_plus s.sites (loaded start ds) (drop_on d), drop_total d on);
        follows = λ v l. omega (arith, law.follows v l, add v);
        never_more = λ w settles. law.never_more w (settles_fewer s (loaded start ds) (loaded start (d ∷ ds)) w (λ v l. omega arith) settles);
        drains = law.drains;
        before = least;
        drains_before = law.drains;
        grown = λ v l. omega arith;
        avalanche = (
          λ v. at x.heights v + drop_on d v,
          (at x.heights, (at x.counts, least, law.follows), λ v l. refl),
          begin (λ v l. add v) (λ v l. omega arith),
        );
        rest = λ e. absurd (resting_open e);
        number = ap (λ k. k + 1) law.number ∙ omega arith;
        last = refl;
      }

  -- a bench just created stands under the law
  pub law_begun : Sound s → (start : List ℕ) (ceiling : ℕ) (x : State) → length start ≡ s.sites → AllReach s → Begun start ceiling x → Law s (at start) [] x
  law_begun sound start ceiling x sized reach b =
      let same : (v : ℕ) → at x.heights v ≡ at start v = λ v. ap (λ xs. at xs v) b.heights in
      let none : (w : ℕ → ℕ) → ((v : ℕ) → w v ≡ 0) → drained s w ≡ 0 = λ w zero. sum_none s.sites (λ v. s.s v * w v) (λ v l. ap (λ k. s.s v * k) (zero v) ∙ mul-zero (s.s v)) in
      let run : Run s (at start) (at x.heights) (since x) = begin (λ v l. same v) (λ v l. omega (arith, b.counts v)) in
      record {
        reach = reach;
        sized = ap length b.heights ∙ sized;
        grains = b.grains_are ∙ ap (λ n. sum_below n (at start)) sized;
        follows = run_follows s sound (at start) (run_same s (at start) (at x.heights) (at x.counts) run (λ v l. refl) (λ v l. omega (arith, b.counts v)));
        never_more = λ w settles v l. omega (arith, b.counts v);
        drains = b.drained_is ∙ sym (none (at x.counts) b.counts);
        before = λ v l. b.opened v;
        drains_before = b.drained_before ∙ sym (none (at x.opened) b.opened);
        grown = λ v l. omega (arith, b.opened v);
        avalanche = (at start, (λ v l. refl), run);
        rest = λ e. let z : ◌≡◌ {A = ℕ} 0 1 = cc (b.phase, e) in absurd (omega arith);
        number = b.number;
        last = b.last;
      }

  -- a record's figures are those of the least counts that settle its avalanche's opening heights
  pub law_recorded : Sound s → (start : ℕ → ℕ) (ds : List GrainDrop) (x : State) (r : Record) → Still s (at x.heights) → Written x r → Law s start ds x → Recorded s start ds r
  law_recorded sound start ds x r still r-is law =
      let a = law.avalanche in
      let all : Same s (at x.counts) (λ v. at x.opened v + since x v) = λ v l. omega (arith, law.grown v l) in
      record {
        opening = a.0;
        firings = since x;
        opens = a.1;
        least = run_least s sound (reach_linked s law.reach) a.0 (at x.heights) (since x) a.2 still;
        size = r-is.size ∙ ap (λ n. sum_below n (since x)) law.sized;
        area = r-is.area ∙ ap (λ n. sum_below n (λ v. cond (ltb 0 (since x v)) 1 0)) law.sized;
        drains = omega (arith, r-is.drained, law.drains, law.drains_before, drained_same (at x.counts) (λ v. at x.opened v + since x v) all, drained_plus (at x.opened) (since x));
        number = r-is.number ∙ law.number;
        dropped = r-is.dropped ∙ law.last;
      }

  -- the firings since the opening of a still avalanche are the least that settle its opening heights
  pub law_since : Sound s → (start : ℕ → ℕ) (ds : List GrainDrop) (x : State) → Still s (at x.heights) → Law s start ds x → (o : ℕ → ℕ) × Opening s start ds o × Least s o (since x)
  law_since sound start ds x still law =
      let a = law.avalanche in
      (a.0, a.1, run_least s sound (reach_linked s law.reach) a.0 (at x.heights) (since x) a.2 still)
