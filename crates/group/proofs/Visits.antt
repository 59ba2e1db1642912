-- The turns of burning.
use Rattle.std.proofs.Common.{◌≡◌, ℕ, ◌+◌, ◌-◌, ◌<◌, ◌≤◌, Bool, cond, ◌⊎◌, List, [], ◌∷◌, ◌++◌, length, set, sym, refl, ap, ◌∙◌, subst, inl, inr, arith}
use Rattle.std.proofs.lemmas.Bool.{cases_lt, cases_eq, cases_order, cond-true, cond-false}
use Rattle.board.specs.Shape.{Shape, Sound, Least, sum_below}
use Rattle.board.specs.Sums.{sum_up, sum_const}
use Rattle.board.specs.Walks.{linked_on}
use Rattle.firing.specs.TakingBack.{links_into}
use Rattle.firing.proofs.Sets.{into_same}
use Rattle.firing.proofs.Sums.{sum_point, sum_jump}
use Rattle.waiting.specs.declared.WaitingList.{WaitingList}
use Rattle.waiting.specs.WaitingLists.{waits, room, Pushed}
use Rattle.settling.specs.Searches.{mark}
use Rattle.settling.proofs.Queues.{mark_here, mark_there, queued_none, queued_push, queued_pop, popped_on, pushed_new}
use Rattle.group.specs.declared.burning.Burnt.{Burnt}
use Rattle.firing.specs.Firing.{at}
use Rattle.group.specs.Flames.{site_of, Noted, Late, Turns, undone, Right, Burning, Cool, Steady, Visit, Lighting, Up, Held, Fresh}
use Rattle.group.proofs.Kindling.{put, put_at, put_off, undone_if, undone_not, right_more, right_next, right_visit, turns_push, late_turns, noted_push, noted_put, late_round}

module _ (b : Shape) (h : ℕ → ℕ) where
  pub few_rounds : (r : ℕ) (es : List Burnt) (fs xs : List ℕ) → Burning b h r es fs xs → r ≤ b.sites + b.sites
  few_rounds r es fs xs B = omega (arith, B.few, sum_const b.sites 2 (mark fs) B.queued.most)

  -- v begins to burn
  burning_more : (r v : ℕ) (es : List Burnt) (fs xs : List ℕ) → b.sites ≤ length fs → length xs ≡ b.sites → v < b.sites → mark fs v ≡ 0 → links_into b (undone fs) v ≤ h v → Burning b h r es fs xs
      → Burning b h r (es ++ record { site = v; round = r + 1 } ∷ []) (set fs v 1) (set xs v (r + 1))
  burning_more r v es fs xs long size on nil high B = record {
    rounds = put B.rounds v (r + 1);
    right = right_more b h r fs B.rounds B.right B.queued.most v on long nil high;
    kept = λ u l m. elim (cases_eq u v) [
      | inl same ↦ mark_here xs v (r + 1) u (omega arith) same ∙ sym (put_at B.rounds v (r + 1) u same)
      | inr apart ↦ mark_there xs v (r + 1) u apart ∙ B.kept u l (omega (arith, mark_there fs v 1 u apart)) ∙ sym (put_off B.rounds v (r + 1) u apart)
    ];
    queued = queued_push site_of b.sites v (record { site = v; round = r + 1 }) es fs refl long on nil B.queued;
    noted = noted_push (put B.rounds v (r + 1)) es (record { site = v; round = r + 1 }) (sym (put_at B.rounds v (r + 1) v refl)) (noted_put B.rounds v (r + 1) es (B.queued.none v on (λ p. omega arith)) B.noted);
    turns = turns_push r es (record { site = v; round = r + 1 }) refl B.turns;
    few = omega (
      arith,
      B.few,
      sum_up b.sites (mark fs) (mark (set fs v 1)) (λ u l. elim (cases_eq u v) [
        | inl same ↦ omega (arith, ap (mark fs) same)
        | inr apart ↦ omega (arith, mark_there fs v 1 u apart)
      ]),
    );
  }

  pub held_burns : (r v : ℕ) (q q' : WaitingList Burnt) (t : Bool) (fs xs : List ℕ) → b.sites ≤ length fs → length xs ≡ b.sites → b.sites ≤ room q → v < b.sites → mark fs v ≡ 0 → at xs v ≡ links_into b (undone fs) v → at xs v ≤ h v
      → Burning b h r (waits q) fs xs → Pushed q (record { site = v; round = r + 1 }) q' t → Held b h r v fs xs (waits q') (set fs v 1) (set xs v (r + 1))
  held_burns r v q q' t fs xs long size rooms on nil count high B p = record {
    burning = subst (λ es. Burning b h r es (set fs v 1) (set xs v (r + 1))) (sym (pushed_new site_of b.sites v (record { site = v; round = r + 1 }) q q' t fs refl rooms long on nil B.queued p))
        (burning_more r v (waits q) fs xs long size on nil (omega arith) B);
    marks = λ w ne. mark_there fs v 1 w ne;
    numbers = λ w ne. mark_there xs v (r + 1) w ne;
    here = inl (mark_here fs v 1 v (omega arith) refl);
  }

  -- what holding u leaves of the others
  held_undone : (r u : ℕ) (fs xs : List ℕ) (es' : List Burnt) (fs' xs' : List ℕ) → mark fs u ≡ 0 → Held b h r u fs xs es' fs' xs' → (w : ℕ) → links_into b (undone fs) w ≡ links_into b (undone fs') w
  held_undone r u fs xs es' fs' xs' nil H w = into_same b (undone fs) (undone fs') (λ k l. elim (cases_eq k u) [
    | inl same ↦ undone_if fs k (omega (arith, ap (mark fs) same)) ∙ sym (undone_if fs' k (low k same H.here))
    | inr apart ↦ ap (λ x. lib.Dec.ltb x 2) (sym (H.marks k apart))
  ]) w
    where
      low : (k : ℕ) → k ≡ u → (mark fs' u ≡ 1) ⊎ ((mark fs' u ≡ 0) × (at xs' u ≡ at xs u) × (h u < at xs u)) → mark fs' k < 2
      low k same (inl e) = omega (arith, ap (mark fs') same)
      low k same (inr e) = omega (arith, ap (mark fs') same, e.0)

  cool_move : (w k : ℕ) (fs xs fs' xs' : List ℕ) → mark fs' w ≡ mark fs w → at xs' w ≡ at xs w → links_into b (undone fs) w ≡ links_into b (undone fs') w → Cool b h fs xs w k → Cool b h fs' xs' w k
  cool_move w k fs xs fs' xs' em ex el C = record {
    count = λ z. omega (arith, C.count (omega arith));
    low = λ z. omega (arith, C.low (omega arith));
  }

  cool_zero : (w k : ℕ) (fs xs : List ℕ) → k ≡ 0 → Cool b h fs xs w k → Cool b h fs xs w 0
  cool_zero w k fs xs e C = subst (λ x. Cool b h fs xs w x) e C

  cool_burnt : (w k : ℕ) (fs xs : List ℕ) → 1 ≤ mark fs w → Cool b h fs xs w k
  cool_burnt w k fs xs m = record { count = λ z. absurd (omega arith); low = λ z. absurd (omega arith) }

  cool_held : (r u : ℕ) (fs xs : List ℕ) (es' : List Burnt) (fs' xs' : List ℕ) → mark fs u ≡ 0 → at xs u ≡ links_into b (undone fs) u → Held b h r u fs xs es' fs' xs' → Cool b h fs' xs' u 0
  cool_held r u fs xs es' fs' xs' nil count H = go H.here
    where
      go : (mark fs' u ≡ 1) ⊎ ((mark fs' u ≡ 0) × (at xs' u ≡ at xs u) × (h u < at xs u)) → Cool b h fs' xs' u 0
      go (inl e) = cool_burnt u 0 fs' xs' (omega arith)
      go (inr e) = record { count = λ z. omega (arith, e.1, held_undone r u fs xs es' fs' xs' nil H u); low = λ z. omega (arith, e.1, e.2) }

  -- the first round
  pub lighting_none : (es : List Burnt) (fs xs : List ℕ) → es ≡ [] → Fresh b fs xs → Lighting b h 0 es fs xs
  lighting_none es fs xs e F = record {
    burning = record {
      rounds = λ u. 0;
      right = record {
        free = λ u l m. refl;
        some = λ u l m. absurd (omega (arith, F.unmarked u l));
        most = λ u l. omega arith;
        past = λ u l m. absurd (omega (arith, F.unmarked u l));
        sound = λ v l k p. absurd (omega arith);
        late = λ v l k p. absurd (omega arith);
        later = λ v l m k p. absurd (omega arith);
      };
      kept = λ u l m. absurd (omega (arith, F.unmarked u l));
      queued = queued_none site_of b.sites es fs e F.unmarked;
      noted = subst (Noted (λ u. 0)) (sym e) tt;
      turns = subst (Turns 0) (sym e) tt;
      few = omega arith;
    };
    near = λ u l lt. absurd (omega arith);
    far = λ u l le. (F.unmarked u l, F.all u l);
  }

  pub lighting_more : (i : ℕ) (es : List Burnt) (fs xs : List ℕ) (es' : List Burnt) (fs' xs' : List ℕ) → i < b.sites → Lighting b h i es fs xs → Held b h 0 i fs xs es' fs' xs' → Lighting b h (i + 1) es' fs' xs'
  lighting_more i es fs xs es' fs' xs' on L H =
      let here = L.far i on (omega arith) in record {
        burning = H.burning;
        near = λ u l lt. elim (cases_eq u i) [
          | inl same ↦ subst (λ x. Cool b h fs' xs' x 0) (sym same) (cool_held 0 i fs xs es' fs' xs' here.0 here.1 H)
          | inr apart ↦ cool_move u 0 fs xs fs' xs' (H.marks u apart) (H.numbers u apart) (held_undone 0 i fs xs es' fs' xs' here.0 H u) (L.near u l (omega arith))
        ];
        far = λ u l le.
            let was = L.far u l (omega arith) in
            let apart : u ≡ i → ⊥ = λ same. omega arith in
            (H.marks u apart ∙ was.0, H.numbers u apart ∙ was.1 ∙ held_undone 0 i fs xs es' fs' xs' here.0 H u);
      }

  -- one neighbour of v
  module _ (ok : Sound b) (r v j u : ℕ) (es : List Burnt) (fs xs : List ℕ) (V : Visit b h r v j es fs xs) (least : Least (b.m v) j u) where
    between : (k : ℕ) → k < b.sites → j ≤ k → k < u → Cool b h fs xs k 0
    between k l from less = cool_zero k (b.m k v) fs xs (ok.symmetric k v ∙ least.before k from less) (V.far k l from)

    pub visit_skip : 1 ≤ mark fs u → Visit b h r v (u + 1) es fs xs
    visit_skip m = record {
      burning = V.burning;
      near = λ k l lt. elim (cases_order k u) [
        | inl same ↦ cool_burnt k 0 fs xs (omega (arith, ap (mark fs) same))
        | inr (inl less) ↦ elim (cases_lt k j) [ inl before ↦ V.near k l before | inr from ↦ between k l from less ]
        | inr (inr more) ↦ absurd (omega arith)
      ];
      far = λ k l le. V.far k l (omega (arith, least.from));
    }

    -- the number of u before it is held
    visit_count : mark fs u ≡ 0 → (b.m v u ≤ at xs u) × (at xs u - b.m v u ≡ links_into b (undone fs) u)
    visit_count nil =
        let c = (V.far u (linked_on ok v u least.linked) least.from).count nil in
        (omega (arith, ok.symmetric v u), omega (arith, ok.symmetric v u))

    pub visit_held : (es' : List Burnt) (fs' xs' : List ℕ) → mark fs u ≡ 0 → u < length xs → Held b h r u fs (set xs u (at xs u - b.m v u)) es' fs' xs' → Visit b h r v (u + 1) es' fs' xs'
    visit_held es' fs' xs' nil long H = record {
      burning = H.burning;
      near = λ k l lt. elim (cases_order k u) [
        | inl same ↦ subst (λ x. Cool b h fs' xs' x 0) (sym same) (cool_held r u fs xs₁ es' fs' xs' nil (mark_here xs u (at xs u - b.m v u) u long refl ∙ (visit_count nil).1) H)
        | inr (inl less) ↦ moved k 0 (λ e. omega arith) (elim (cases_lt k j) [ inl before ↦ V.near k l before | inr from ↦ between k l from less ])
        | inr (inr more) ↦ absurd (omega arith)
      ];
      far = λ k l le. moved k (b.m k v) (λ e. omega arith) (V.far k l (omega (arith, least.from)));
    }
      where
        xs₁ : List ℕ
        xs₁ = set xs u (at xs u - b.m v u)

        moved : (k d : ℕ) → (k ≡ u → ⊥) → Cool b h fs xs k d → Cool b h fs' xs' k d
        moved k d ne C = cool_move k d fs xs fs' xs' (H.marks k ne) (H.numbers k ne ∙ mark_there xs u (at xs u - b.m v u) k ne) (held_undone r u fs (set xs u (at xs u - b.m v u)) es' fs' xs' nil H k) C

  pub visit_all : (r v j : ℕ) (es : List Burnt) (fs xs : List ℕ) → Sound b → ((k : ℕ) → j ≤ k → b.m v k ≡ 0) → Visit b h r v j es fs xs → Steady b h r es fs xs
  visit_all r v j es fs xs ok none V = record {
    burning = V.burning;
    cool = λ u l. elim (cases_lt u j) [
      | inl near ↦ V.near u l near
      | inr from ↦ cool_zero u (b.m u v) fs xs (ok.symmetric u v ∙ none u from) (V.far u l from)
    ];
  }

  held_up : (r u : ℕ) (fs xs : List ℕ) (es' : List Burnt) (fs' xs' : List ℕ) → mark fs u ≡ 0 → Held b h r u fs xs es' fs' xs' → Up fs fs'
  held_up r u fs xs es' fs' xs' nil H w = elim (cases_eq w u) [
    | inl same ↦ omega (arith, ap (mark fs) same)
    | inr apart ↦ omega (arith, H.marks w apart)
  ]

  pub up_held : (r u : ℕ) (fs₀ fs xs : List ℕ) (es' : List Burnt) (fs' xs' : List ℕ) → mark fs u ≡ 0 → Held b h r u fs xs es' fs' xs' → Up fs₀ fs → Up fs₀ fs'
  up_held r u fs₀ fs xs es' fs' xs' nil H up w = omega (arith, up w, held_up r u fs xs es' fs' xs' nil H w)

  -- a visit begins: its entry comes off the list
  module _ (r : ℕ) (e : Burnt) (es : List Burnt) (fs xs : List ℕ) (long : b.sites ≤ length fs) (S : Steady b h r (e ∷ es) fs xs) where
    abbrev v : ℕ
    v = e.site

    pub was : (e.site < b.sites) × (mark fs e.site ≡ 1)
    was = popped_on site_of b.sites e es fs S.burning.queued

    -- its round is the round now, or the next, which then begins
    begins : Right b h e.round fs S.burning.rounds × Turns e.round es × (e.round ≤ r + 1)
    begins = go S.burning.turns
      where
        go : ((e.round ≡ r) × Turns r es) ⊎ ((e.round ≡ r + 1) × Late r es) → Right b h e.round fs S.burning.rounds × Turns e.round es × (e.round ≤ r + 1)
        go (inl t) = subst (λ x. Right b h x fs S.burning.rounds × Turns x es × (x ≤ r + 1)) (sym t.0) (S.burning.right, t.1, omega arith)
        go (inr t) = subst (λ x. Right b h x fs S.burning.rounds × Turns x es × (x ≤ r + 1)) (sym t.0) (
          right_next b h r fs S.burning.rounds S.burning.right
              (λ u l m. late_round S.burning.rounds r u (e ∷ es) t S.burning.noted (omega (arith, S.burning.queued.once u l m)))
              (λ u l m. omega (arith, (S.cool u l).count m, (S.cool u l).low m)),
          late_turns r es t.1,
          omega arith,
        )

    marks_up : (u : ℕ) → mark fs u ≤ mark (set fs e.site 2) u
    marks_up u = elim (cases_eq u e.site) [
      | inl same ↦ omega (arith, ap (mark fs) same, was.1, mark_here fs e.site 2 u (omega (arith, was.0)) same)
      | inr apart ↦ omega (arith, mark_there fs e.site 2 u apart)
    ]

    marks_sum : sum_below b.sites (mark fs) + 1 ≤ sum_below b.sites (mark (set fs e.site 2))
    marks_sum = sum_jump b.sites (mark fs) (mark (set fs e.site 2)) e.site 1 was.0 (omega (arith, was.1, mark_here fs e.site 2 e.site (omega (arith, was.0)) refl)) (λ u l. marks_up u)

    visited_links : (w : ℕ) → links_into b (undone fs) w ≡ links_into b (undone (set fs e.site 2)) w + b.m w e.site
    visited_links w =
        sum_point b.sites (λ u. cond (undone (set fs e.site 2) u) (b.m w u) 0) (λ u. cond (undone fs u) (b.m w u) 0) e.site (b.m w e.site) was.0
        (omega (
          arith,
          cond-true (undone fs e.site) (b.m w e.site) 0 (undone_if fs e.site (omega (arith, was.1))),
          cond-false (undone (set fs e.site 2) e.site) (b.m w e.site) 0 (undone_not (set fs e.site 2) e.site (omega (arith, mark_here fs e.site 2 e.site (omega (arith, was.0)) refl))),
        ))
        (λ u l ne. ap (λ x. cond (lib.Dec.ltb x 2) (b.m w u) 0) (sym (mark_there fs e.site 2 u ne)))

    pub visit_begins : Visit b h e.round e.site 0 es (set fs e.site 2) xs
    visit_begins = record {
      burning = record {
        rounds = S.burning.rounds;
        right = right_visit b h e.round fs S.burning.rounds e.site (omega (arith, was.0)) was.1 (omega (arith, S.burning.noted.0)) begins.0;
        kept = λ u l m. S.burning.kept u l (elim (cases_eq u e.site) [
          | inl same ↦ omega (arith, ap (mark fs) same, was.1)
          | inr apart ↦ omega (arith, mark_there fs e.site 2 u apart)
        ]);
        queued = queued_pop site_of b.sites e es fs long S.burning.queued;
        noted = S.burning.noted.1;
        turns = begins.1;
        few = omega (arith, begins.2, S.burning.few, marks_sum);
      };
      near = λ u l lt. absurd (omega arith);
      far = λ u l le. elim (cases_eq u e.site) [
        | inl same ↦ cool_burnt u (b.m u e.site) (set fs e.site 2) xs (omega (arith, mark_here fs e.site 2 u (omega (arith, was.0)) same))
        | inr apart ↦ record {
          count = λ z. omega (arith, (S.cool u l).count (sym (mark_there fs e.site 2 u apart) ∙ z), visited_links u);
          low = λ z. (S.cool u l).low (sym (mark_there fs e.site 2 u apart) ∙ z);
        }
      ];
    }

    -- and the marks grow by the visit
    pub visit_less : (r' : ℕ) (es' : List Burnt) (fs' xs' : List ℕ) → Steady b h r' es' fs' xs' → Up (set fs e.site 2) fs'
        → b.sites + b.sites - sum_below b.sites (mark fs') < b.sites + b.sites - sum_below b.sites (mark fs)
    visit_less r' es' fs' xs' S' up =
        omega (arith, marks_sum, sum_up b.sites (mark (set fs e.site 2)) (mark fs') (λ u l. up u), sum_const b.sites 2 (mark fs') S'.burning.queued.most)
