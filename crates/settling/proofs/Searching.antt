-- The turns of a search.
use Rattle.std.proofs.Common.{◌≡◌, ℕ, ◌+◌, ◌-◌, ◌<◌, ◌≤◌, List, [], ◌∷◌, length, set, sym, refl, ap, ◌∙◌, subst, inl, inr, arith, length-set}
use Rattle.std.proofs.lemmas.Bool.{cases_lt, cases_eq}
use Rattle.board.specs.Shape.{Shape, Sound, sum_below}
use Rattle.board.specs.Sums.{sum_const}
use Rattle.board.specs.Walks.{linked_on}
use Rattle.firing.specs.Reaching.{Reaches, out, along}
use Rattle.firing.proofs.Sums.{sum_jump}
use Rattle.settling.specs.Searches.{mark, occurs, Queued, Searching, Searched}
use Rattle.settling.specs.Waits.{Turned}
use Rattle.settling.proofs.Queues.{mark_here, mark_there, popped_on}
use Rattle.settling.proofs.Waited.{turned_kept, turned_not}

module _ {T : Type 0} (site : T → ℕ) (b : Shape) where
  -- of the sites below i, those that are linked to the drain are found, and no others
  pub record Seeded (i : ℕ) (es : List T) (fs : List ℕ) : Type 0 where
    pub queued : Queued site b.sites es fs
    pub new : (u : ℕ) → u < b.sites → 1 ≤ mark fs u → (mark fs u ≡ 1) × (1 ≤ b.s u)
    pub all : (u : ℕ) → u < i → 1 ≤ b.s u → 1 ≤ mark fs u

  pub seeded_none : (es : List T) (fs : List ℕ) → length fs ≡ b.sites → Queued site (length fs) es fs → ((u : ℕ) → mark fs u ≡ 0) → Seeded 0 es fs
  seeded_none es fs size q nil = record { queued = subst (λ n. Queued site n es fs) size q; new = λ u l m. absurd (omega (arith, nil u)); all = λ u l s. absurd (omega arith) }

  pub seeded_skip : (i : ℕ) (es : List T) (fs : List ℕ) → b.s i < 1 → Seeded i es fs → Seeded (i + 1) es fs
  seeded_skip i es fs no' k = record {
    queued = k.queued;
    new = k.new;
    all = λ u l s. elim (cases_eq u i) [ inl same ↦ absurd (omega (arith, ap b.s same)) | inr apart ↦ k.all u (omega arith) s ];
  }

  pub seeded_more : (i : ℕ) (es : List T) (fs : List ℕ) (es' : List T) (fs' : List ℕ) → i < length fs → 1 ≤ b.s i → Seeded i es fs → Turned (λ u. u ≡ i) 0 fs fs' → length fs' ≡ b.sites → Queued site (length fs') es' fs' → Seeded (i + 1) es' fs'
  seeded_more i es fs es' fs' on some k t size q = record {
    queued = subst (λ n. Queued site n es' fs') size q;
    new = λ u l m. elim (t.only u) [
      | inl same ↦ let was = k.new u l (omega arith) in (same ∙ was.0, was.1)
      | inr new ↦ (new.1, subst (λ x. 1 ≤ b.s x) (sym new.2) some)
    ];
    all = λ u l s. elim (t.only u) [
      | inl same ↦ elim (cases_eq u i) [
        | inl here ↦ elim (cases_lt 0 (mark fs u)) [ inl p ↦ omega arith | inr z ↦ omega (arith, t.all u here (omega arith) (omega arith)) ]
        | inr apart ↦ omega (arith, k.all u (omega arith) s)
      ]
      | inr new ↦ omega (arith, new.1)
    ];
  }

  pub seeded_all : (es : List T) (fs : List ℕ) → Seeded b.sites es fs → Searching site b es fs
  seeded_all es fs k = record {
    queued = k.queued;
    sound = λ u l m. out u l (k.new u l m).1;
    drain = λ u l s. k.all u l s;
    closed = λ v u l two m. absurd (omega (arith, (k.new v l (omega arith)).0));
  }

  -- marks after a visit of v
  marks_after : (v : ℕ) (fs fs' : List ℕ) → v < length fs → Turned (λ u. 0 < b.m v u) 0 (set fs v 2) fs' → (u : ℕ) → mark fs v ≤ 2 → mark fs u ≤ mark fs' u
  marks_after v fs fs' l t u two = elim (cases_eq u v) [
    | inl same ↦
        let here : mark (set fs v 2) u ≡ 2 = mark_here fs v 2 u l same in
        omega (arith, ap (mark fs) same, turned_kept (λ k. 0 < b.m v k) 0 (set fs v 2) fs' t u (λ e. omega arith))
    | inr apart ↦
        let there : mark (set fs v 2) u ≡ mark fs u = mark_there fs v 2 u apart in
        elim (t.only u) [ inl stands ↦ omega arith | inr new ↦ omega (arith, new.0) ]
  ]

  -- a visit of the first site that waits
  pub visit_turned : (v : ℕ) (e : T) (fs fs' fs'' : List ℕ) → v ≡ site e → fs' ≡ set fs (site e) 2 → Turned (λ u. 0 < b.m v u) 0 fs' fs'' → Turned (λ u. 0 < b.m (site e) u) 0 (set fs (site e) 2) fs''
  visit_turned v e fs fs' fs'' is set_is t = subst (λ x. Turned (λ u. 0 < b.m (site e) u) 0 x fs'') set_is (subst (λ x. Turned (λ u. 0 < b.m x u) 0 fs' fs'') is t)

  -- one visit: v comes off the list, and what it is linked to is found
  pub searching_more : Sound b → (e : T) (es es'' : List T) (fs fs'' : List ℕ) → b.sites ≤ length fs → Searching site b (e ∷ es) fs → Turned (λ u. 0 < b.m (site e) u) 0 (set fs (site e) 2) fs'' → length fs'' ≡ b.sites → Queued site (length fs'') es'' fs''
      → Searching site b es'' fs''
  searching_more ok e es es'' fs fs'' long s t size q = record {
    queued = subst (λ n. Queued site n es'' fs'') size q;
    sound = λ u l m. elim (cases_lt 0 (mark fs u)) [
      | inl p ↦ s.sound u l p
      | inr p ↦ elim (t.only u) [
        | inl same ↦ elim (cases_eq u v) [
          | inl here ↦ absurd (omega (arith, ap (mark fs) here, was.1))
          | inr apart ↦ absurd (omega (arith, mark_there fs v 2 u apart))
        ]
        | inr new ↦ along u v l (omega (arith, new.2, ok.symmetric u v)) (s.sound v was.0 (omega (arith, was.1)))
      ]
    ];
    drain = λ u l m. omega (arith, s.drain u l m, up u);
    closed = λ x u l two m. elim (cases_eq x v) [
      | inl same ↦ met u (subst (λ y. 1 ≤ b.m y u) same m)
      | inr apart ↦ omega (arith, up u, s.closed x u l (before x apart two) m)
    ];
  }
    where
      v : ℕ
      v = site e

      was : (site e < b.sites) × (mark fs (site e) ≡ 1)
      was = popped_on site b.sites e es fs s.queued

      up : (u : ℕ) → mark fs u ≤ mark fs'' u
      up u = marks_after (site e) fs fs'' (omega (arith, was.0)) t u (omega (arith, was.1))

      met : (u : ℕ) → 1 ≤ b.m (site e) u → 1 ≤ mark fs'' u
      met u m = elim (cases_lt 0 (mark fs'' u)) [
        | inl p ↦ p
        | inr z ↦ absurd (turned_not (λ k. 0 < b.m (site e) k) 0 (set fs (site e) 2) fs'' (λ p. omega arith) t u (omega arith) (omega (arith, length-set fs (site e) 2, linked_on ok (site e) u (omega arith))) (omega arith))
      ]

      before : (x : ℕ) → (x ≡ site e → ⊥) → mark fs'' x ≡ 2 → mark fs x ≡ 2
      before x apart two = elim (t.only x) [
        | inl same ↦ sym (mark_there fs (site e) 2 x apart) ∙ sym same ∙ two
        | inr new ↦ absurd (omega (arith, new.1))
      ]

  -- and the sum of the marks grows, which is at most twice the sites
  pub searching_less : (e : T) (es es'' : List T) (fs fs'' : List ℕ) → b.sites ≤ length fs → Queued site b.sites (e ∷ es) fs → Turned (λ u. 0 < b.m (site e) u) 0 (set fs (site e) 2) fs'' → length fs'' ≡ b.sites → Queued site (length fs'') es'' fs''
      → b.sites + b.sites - sum_below b.sites (mark fs'') < b.sites + b.sites - sum_below b.sites (mark fs)
  searching_less e es es'' fs fs'' long q t size q'' =
      let was = popped_on site b.sites e es fs q in
      let two : mark (set fs (site e) 2) (site e) ≡ 2 = mark_here fs (site e) 2 (site e) (omega (arith, was.0)) refl in
      omega (
        arith,
        sum_jump b.sites (mark fs) (mark fs'') (site e) 1 was.0 (omega (arith, was.1, turned_kept (λ u. 0 < b.m (site e) u) 0 (set fs (site e) 2) fs'' t (site e) (λ z. omega arith)))
            (λ u l. marks_after (site e) fs fs'' (omega (arith, was.0)) t u (omega (arith, was.1))),
        sum_const b.sites 2 (mark fs'') (λ u l. q''.most u (omega arith)),
      )

  -- nothing waits: the search is whole
  pub searching_end : Sound b → (es : List T) (fs : List ℕ) → es ≡ [] → Searching site b es fs → Searched b fs
  searching_end ok es fs e s = record { sound = s.sound; whole = λ u l r. whole r }
    where
      seen : (v : ℕ) → v < b.sites → 1 ≤ mark fs v → mark fs v ≡ 2
      seen v l m = elim (cases_eq (mark fs v) 1) [
        | inl p ↦ absurd (omega (arith, s.queued.once v l p, ap (occurs site v) e))
        | inr p ↦ omega (arith, s.queued.most v l)
      ]

      whole : {u : ℕ} → Reaches b u → 1 ≤ mark fs u
      whole (out u on m) = s.drain u on m
      whole (along u w on m r) =
          let there : w < b.sites = linked_on ok u w m in
          s.closed w u there (seen w there (whole r)) (omega (arith, ok.symmetric u w))
