-- What one look does to the set, and what is left at the end.
use Rattle.std.proofs.Common.{◌≡◌, ℕ, ◌+◌, ◌*◌, ◌<◌, ◌≤◌, Bool, true, false, cond, ltb, List, [], ◌∷◌, length, set, Some, None, Option, sym, refl, ap, ◌∙◌, subst, inl, inr, mul-le-mul_right, arith, length-set}
use Rattle.std.proofs.lemmas.Bool.{cases_Bool, cases_lt, cases_eq, cond-true, cond-false, lt-ltb, le-ltb, ltb-true}
use Rattle.board.specs.Shape.{Shape, Sound, Least, sum_below}
use Rattle.board.specs.Sums.{sum_suc, sum_same, sum_skip, sum_more}
use Rattle.board.specs.Walks.{linked_on, deg_is, deg_le}
use Rattle.firing.specs.TakingBack.{links_into, Lower, TakesBack, Largest}
use Rattle.firing.proofs.Sums.{sum_jump}
use Rattle.firing.proofs.Sets.{cond_le, into_le, into_same, into_most}
use Rattle.firing.proofs.Stands.{plain_heights}
use Rattle.settling.specs.Searches.{mark, occurs}
use Rattle.settling.specs.Waits.{Turned, Rested}
use Rattle.settling.proofs.Queues.{mark_here, mark_there, queued_pop, queued_length, popped_on}
use Rattle.settling.proofs.Waited.{turned_not}
use Rattle.certificate.specs.Sets.{marked, Awaits, Narrowing, LowestMarked, LowestBack}
use Rattle.certificate.proofs.Entering.{Entered}

-- looks that are left at most: each site of the set may have every site looked at again as it leaves
abbrev pub looks : ℕ → List ℕ → List ℕ → ℕ
looks n es fs = sum_below n (λ u. cond (marked fs u) 1 0) * (n + 1) + length es

pub marked_if : (fs : List ℕ) (u : ℕ) → 1 ≤ mark fs u → marked fs u ≡ true
marked_if fs u l = lt-ltb 0 (mark fs u) l

pub marked_not : (fs : List ℕ) (u : ℕ) → mark fs u ≡ 0 → marked fs u ≡ false
marked_not fs u e = le-ltb 0 (mark fs u) (omega arith)

pub marked_is : (fs : List ℕ) (u : ℕ) → marked fs u ≡ true → 1 ≤ mark fs u
marked_is fs u e = ltb-true 0 (mark fs u) e

marked_alike : (fs fs' : List ℕ) (u : ℕ) → (1 ≤ mark fs u → 1 ≤ mark fs' u) → (1 ≤ mark fs' u → 1 ≤ mark fs u) → marked fs u ≡ marked fs' u
marked_alike fs fs' u to from = elim (cases_lt 0 (mark fs u)) [
  | inl l ↦ marked_if fs u l ∙ sym (marked_if fs' u (to l))
  | inr l ↦ marked_not fs u (omega arith) ∙ sym (marked_not fs' u (elim (cases_lt 0 (mark fs' u)) [ inl l' ↦ absurd (omega (arith, from l')) | inr l' ↦ omega arith ]))
]

-- the links of v into the set, to the sites below j
pub record IntoBelow (b : Shape) (fs : List ℕ) (v j sum : ℕ) : Type 0 where
  pub on : j ≤ b.sites
  pub is : sum ≡ sum_below j (λ u. cond (marked fs u) (b.m v u) 0)

pub into_none : (b : Shape) (fs : List ℕ) (v : ℕ) → IntoBelow b fs v 0 0
unfolding sum_below
into_none b fs v = record { on = omega arith; is = omega arith }

-- a walk that sums them
module _ {b : Shape} (ok : Sound b) (fs : List ℕ) (v : ℕ) where
  abbrev into : ℕ → ℕ
  into u = cond (marked fs u) (b.m v u) 0

  none_into : (u : ℕ) → b.m v u ≡ 0 → into u ≡ 0
  none_into u e = elim (cases_lt 0 (mark fs u)) [
    | inl l ↦ cond-true (marked fs u) (b.m v u) 0 (marked_if fs u l) ∙ e
    | inr l ↦ cond-false (marked fs u) (b.m v u) 0 (marked_not fs u (omega arith))
  ]

  into_more : (j u sum : ℕ) → IntoBelow b fs v j sum → Least (b.m v) j u → IntoBelow b fs v (u + 1) (sum + cond (marked fs u) (b.m v u) 0)
  into_more j u sum i h = record {
    on = omega (arith, linked_on ok v u h.linked);
    is = omega (arith, i.is, sum_suc u into, sum_skip j u into h.from (λ k f l. none_into k (h.before k f l)));
  }

  -- a site of the set
  pub into_in : (j u sum : ℕ) → IntoBelow b fs v j sum → Least (b.m v) j u → 0 < mark fs u → IntoBelow b fs v (u + 1) (sum + b.m v u)
  into_in j u sum i h l = subst (λ m. IntoBelow b fs v (u + 1) (sum + m)) (cond-true (marked fs u) (b.m v u) 0 (marked_if fs u l)) (into_more j u sum i h)

  -- a site outside
  pub into_out : (j u sum : ℕ) → IntoBelow b fs v j sum → Least (b.m v) j u → mark fs u ≤ 0 → IntoBelow b fs v (u + 1) sum
  into_out j u sum i h l = record {
    on = (into_more j u sum i h).on;
    is = omega (arith, (into_more j u sum i h).is, cond-false (marked fs u) (b.m v u) 0 (marked_not fs u (omega arith)));
  }

  pub into_all : (j sum : ℕ) → IntoBelow b fs v j sum → ((k : ℕ) → j ≤ k → b.m v k ≡ 0) → sum ≡ links_into b (marked fs) v
  into_all j sum i none = i.is ∙ sym (sum_skip j b.sites into i.on (λ k f l. none_into k (none k f)))

  pub into_fits : (j u sum : ℕ) → IntoBelow b fs v j sum → Least (b.m v) j u → 0 < mark fs u → sum + b.m v u ≤ 500000
  into_fits j u sum i h l =
      omega (
        arith,
        (into_in j u sum i h l).is,
        sum_more (u + 1) b.sites into (omega (arith, linked_on ok v u h.linked)),
        into_most b (marked fs) v,
        deg_is b v,
        deg_le ok v,
      )

pub ruleset into_walk = (into_none, into_in, into_out, into_all, into_fits)

-- v was the first that waited, and is looked at
module _ {b : Shape} (ok : Sound b) {w h : ℕ → ℕ} {v : ℕ} {ws es fs : List ℕ} (popped : ws ≡ v ∷ es) (long : b.sites ≤ length fs) (kept : Narrowing b w h ws fs) where
  n : Narrowing b w h (v ∷ es) fs
  n = subst (λ q. Narrowing b w h q fs) popped kept

  was : (v < b.sites) × (mark fs v ≡ 1)
  was = popped_on (λ u. u) b.sites v es fs n.queued

  pub look_on : v < b.sites
  look_on = was.0

  look_popped : Awaits b.sites es (set fs v 2)
  look_popped = queued_pop (λ u. u) b.sites v es fs long n.queued

  here_seen : mark (set fs v 2) v ≡ 2
  here_seen = mark_here fs v 2 v (omega (arith, was.0)) refl

  here_gone : mark (set (set fs v 2) v 0) v ≡ 0
  here_gone = mark_here (set fs v 2) v 0 v (omega (arith, was.0, length-set fs v 2)) refl

  there_gone : (u : ℕ) → (u ≡ v → ⊥) → mark (set (set fs v 2) v 0) u ≡ mark fs u
  there_gone u apart = mark_there (set fs v 2) v 0 u apart ∙ mark_there fs v 2 u apart

  -- what the marks are once it leaves the set
  pub look_gone : {fs' gs : List ℕ} → fs' ≡ set fs v 2 → Rested v 0 fs' gs → gs ≡ set (set fs v 2) v 0
  look_gone {fs'} {gs} seen r =
      let r' : Rested v 0 (set fs v 2) gs = subst (λ m. Rested v 0 m gs) seen r in
      r'.here (omega (arith, was.0, length-set fs v 2)) (λ e. omega (arith, here_seen)) (inl refl)

  pub look_size : {fs' gs : List ℕ} (fs'' : List ℕ) → fs' ≡ set fs v 2 → Rested v 0 fs' gs → length fs'' ≡ length gs → length fs'' ≡ length fs
  look_size fs'' seen r same = same ∙ ap length (look_gone seen r) ∙ length-set (set fs v 2) v 0 ∙ length-set fs v 2

  -- a site that is looked at stays in the set for now
  same_seen : (u : ℕ) → marked (set fs v 2) u ≡ marked fs u
  same_seen u = elim (cases_eq u v) [
    | inl same ↦ marked_alike (set fs v 2) fs u (λ l. omega (arith, ap (mark fs) same, was.1)) (λ l. omega (arith, ap (mark (set fs v 2)) same, here_seen))
    | inr apart ↦ ap (ltb 0) (mark_there fs v 2 u apart)
  ]

  same_into : (u : ℕ) → links_into b (marked (set fs v 2)) u ≡ links_into b (marked fs) u
  same_into u = into_same b (marked (set fs v 2)) (marked fs) (λ x l. same_seen x) u

  -- v is lower than its links into the set
  pub look_stays : h v < links_into b (marked (set fs v 2)) v → Narrowing b w h es (set fs v 2)
  look_stays low = record {
    queued = look_popped;
    fired = λ u l m. n.fired u l (marked_is fs u (sym (same_seen u) ∙ marked_if (set fs v 2) u m));
    lower = λ u l two. elim (cases_eq u v) [
      | inl same ↦ subst (λ x. Lower b h (marked (set fs v 2)) x) (sym same) ((plain_heights b ok h (marked (set fs v 2)) v).0.1 low)
      | inr apart ↦ omega (arith, n.lower u l (sym (mark_there fs v 2 u apart) ∙ two), same_into u)
    ];
    covers = λ S takes u l e. same_seen u ∙ n.covers S takes u l e;
  }

  pub stays_less : looks b.sites es (set fs v 2) < looks b.sites ws fs
  stays_less =
      let same = sum_same b.sites (λ u. cond (marked (set fs v 2) u) 1 0) (λ u. cond (marked fs u) 1 0) (λ u l. ap (λ s. cond s 1 0) (same_seen u)) in
      omega (arith, ap length popped, ap (λ k. k * (b.sites + 1)) same)

  -- v leaves, and its neighbours wait again
  module _ {es'' fs'' : List ℕ} (after : Awaits b.sites es'' fs'') (t : Turned (λ u. 0 < b.m v u) 2 (set (set fs v 2) v 0) fs'') where
    up : (u : ℕ) → 1 ≤ mark (set (set fs v 2) v 0) u → 1 ≤ mark fs'' u
    up u l = elim (t.only u) [ inl e ↦ omega arith | inr e ↦ omega arith ]

    down : (u : ℕ) → 1 ≤ mark fs'' u → 1 ≤ mark (set (set fs v 2) v 0) u
    down u l = elim (t.only u) [ inl e ↦ omega arith | inr e ↦ omega arith ]

    other : (u : ℕ) → 1 ≤ mark fs'' u → u ≡ v → ⊥
    other u l same = omega (arith, down u l, ap (mark (set (set fs v 2) v 0)) same, here_gone)

    left : (u : ℕ) → 1 ≤ mark fs'' u → 1 ≤ mark fs u
    left u l = omega (arith, down u l, there_gone u (other u l))

    stay : (u : ℕ) → (u ≡ v → ⊥) → marked fs'' u ≡ marked fs u
    stay u apart = marked_alike fs'' fs u (left u) (λ l. up u (omega (arith, there_gone u apart)))

    -- whoever has no link to v keeps its links into the set
    kept_into : (u : ℕ) → b.m v u ≡ 0 → links_into b (marked fs'') u ≡ links_into b (marked fs) u
    kept_into u none = sum_same b.sites (λ x. cond (marked fs'' x) (b.m u x) 0) (λ x. cond (marked fs x) (b.m u x) 0) (λ x l. elim (cases_eq x v) [
      | inl same ↦ let nil : b.m u x ≡ 0 = ap (b.m u) same ∙ ok.symmetric u v ∙ none in none_into ok fs'' u x nil ∙ sym (none_into ok fs u x nil)
      | inr apart ↦ ap (λ s. cond s (b.m u x) 0) (stay x apart)
    ])

    pub look_leaves : links_into b (marked (set fs v 2)) v ≤ h v → Narrowing b w h es'' fs''
    look_leaves high = record {
      queued = after;
      fired = λ u l m. n.fired u l (left u m);
      lower = λ u l two. elim (cases_lt 0 (b.m v u)) [
        | inl m ↦ absurd (turned_not (λ k. 0 < b.m v k) 2 (set (set fs v 2) v 0) fs'' (λ e. omega arith) t u m (omega (arith, length-set fs v 2, length-set (set fs v 2) v 0)) two)
        | inr m ↦ omega (arith, n.lower u l (before u two), kept_into u (omega arith))
      ];
      covers = λ S takes u l e. marked_if fs'' u (up u (omega (arith, there_gone u (λ same. leaves S takes u l e same), marked_is fs u (n.covers S takes u l e))));
    }
      where
        before : (u : ℕ) → mark fs'' u ≡ 2 → mark fs u ≡ 2
        before u two = elim (t.only u) [
          | inl e ↦ omega (arith, there_gone u (other u (omega arith)))
          | inr e ↦ absurd (omega arith)
        ]

        -- no set that can be taken back has v
        leaves : (S : ℕ → Bool) → TakesBack b w h S → (u : ℕ) → u < b.sites → S u ≡ true → u ≡ v → ⊥
        leaves S takes u l e same =
            let low = (plain_heights b ok h S v).0.0 (takes v was.0 (subst (λ x. S x ≡ true) same e)).1 in
            omega (arith, low, into_le b S (marked fs) (λ x l' e'. n.covers S takes x l' e') v, same_into v)

    pub leaves_less : looks b.sites es'' fs'' < looks b.sites ws fs
    leaves_less =
        let out : ◌≡◌ {A = ℕ} (cond (marked fs'' v) 1 0) 0 = cond-false (marked fs'' v) 1 0 (marked_not fs'' v (elim (cases_lt 0 (mark fs'' v)) [ inl l ↦ absurd (other v l refl) | inr l ↦ omega arith ])) in
        let in_set : ◌≡◌ {A = ℕ} (cond (marked fs v) 1 0) 1 = cond-true (marked fs v) 1 0 (marked_if fs v (omega (arith, was.1))) in
        let fewer = sum_jump b.sites (λ u. cond (marked fs'' u) 1 0) (λ u. cond (marked fs u) 1 0) v 1 was.0 (omega arith)
        (λ u l. cond_le (marked fs'' u) (marked fs u) 1 (λ e. marked_if fs u (left u (marked_is fs'' u e)))) in
        omega (arith, ap length popped, mul-le-mul_right (b.sites + 1) fewer, queued_length (λ u. u) b.sites es'' fs'' after)

module _ (b : Shape) (w h : ℕ → ℕ) where
  pub narrowing_begins : (es fs : List ℕ) → Entered b.sites b.sites w es fs → Narrowing b w h es fs
  narrowing_begins es fs e = record {
    queued = e.queued;
    fired = λ u l m. elim (cases_lt 0 (w u)) [ inl some ↦ some | inr none ↦ absurd (omega (arith, e.off_set u l (omega arith))) ];
    lower = λ u l two. elim (cases_lt 0 (w u)) [
      | inl some ↦ absurd (omega (arith, e.in_set u l some))
      | inr none ↦ absurd (omega (arith, e.off_set u l (omega arith)))
    ];
    covers = λ S takes u l t. marked_if fs u (omega (arith, e.in_set u l (takes u l t).0));
  }

  -- nothing waits: what is left is the largest set
  pub narrowing_ends : (es fs : List ℕ) → es ≡ [] → Narrowing b w h es fs → Largest b w h (marked fs)
  narrowing_ends es fs e n = record {
    back = λ u l t. (
      n.fired u l (marked_is fs u t),
      n.lower u l (elim (cases_eq (mark fs u) 1) [
        | inl one ↦ absurd (omega (arith, n.queued.once u l one, ap (occurs (λ v. v) u) e))
        | inr not ↦ omega (arith, marked_is fs u t, n.queued.most u l)
      ]),
    );
    holds = n.covers;
  }

  pub lowest_left : (fs : List ℕ) (r : Option ℕ) → Largest b w h (marked fs) → LowestMarked b.sites fs r → LowestBack b w h r
  lowest_left fs None large low = λ S takes v l. elim (cases_Bool (S v)) [
    | inl t ↦ absurd (omega (arith, low v l, marked_is fs v (large.holds S takes v l t)))
    | inr f ↦ f
  ]
  lowest_left fs (Some v) large low =
      (marked fs, large, record { on = low.0; holds = marked_if fs v low.1; before = λ u l t. omega (arith, low.2 u l, marked_is fs u t) })
