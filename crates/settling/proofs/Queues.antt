-- The waiting list of a search, and its marks.
use Rattle.std.proofs.Common.{◌≡◌, ℕ, ◌+◌, ◌<◌, ◌≤◌, Bool, true, false, cond, eqb, ◌⊎◌, List, [], ◌∷◌, ◌++◌, length, set, sym, refl, ap, ◌∙◌, subst, inl, inr, arith, length-append, length-set, get_or-set_other, get_or-set_same}
use Rattle.std.proofs.lemmas.Bool.{cases_lt, cases_eq, cond-true, cond-false, eq-eqb, ne_eqb}
use Rattle.board.specs.Shape.{sum_below}
use Rattle.board.specs.Sums.{sum_const}
use Rattle.firing.proofs.Sums.{sum_point}
use Rattle.waiting.specs.declared.WaitingList.{WaitingList}
use Rattle.waiting.specs.WaitingLists.{waits, room, Pushed}
use Rattle.settling.specs.Searches.{mark, occurs, Queued}
use Rattle.settling.specs.Waits.{Rests}

pub hit : (u x : ℕ) → u ≡ x → ◌≡◌ {A = ℕ} (cond (eqb u x) 1 0) 1
hit u x e = cond-true (eqb u x) 1 0 (eq-eqb u x e)

pub miss : (u x : ℕ) → (u ≡ x → ⊥) → ◌≡◌ {A = ℕ} (cond (eqb u x) 1 0) 0
miss u x ne = cond-false (eqb u x) 1 0 (ne_eqb u x ne)

pub mark_here : (fs : List ℕ) (v x u : ℕ) → v < length fs → u ≡ v → mark (set fs v x) u ≡ x
mark_here fs v x u l e = ap (mark (set fs v x)) e ∙ get_or-set_same fs v x 0 l

pub mark_there : (fs : List ℕ) (v x u : ℕ) → (u ≡ v → ⊥) → mark (set fs v x) u ≡ mark fs u
mark_there fs v x u ne = get_or-set_other fs v u x 0 ne

-- as many marks after one was written, and after whatever keeps their number
pub written_size : (v x : ℕ) (fs fs' fs'' : List ℕ) → fs' ≡ set fs v x → length fs'' ≡ length fs' → length fs'' ≡ length fs
written_size v x fs fs' fs'' is size = size ∙ ap length is ∙ length-set fs v x

-- none was taken, and so none waits
pub none_waits : {T : Type 0} (x : ℕ) (es : List T) → Rests x → (es ≡ []) ⊎ (Rests x → ⊥) → es ≡ []
none_waits x es rests (inl nil) = nil
none_waits x es rests (inr not) = absurd (not rests)

module _ {T : Type 0} (site : T → ℕ) where
  pub occurs_snoc : (u : ℕ) (e : T) (es : List T) → occurs site u (es ++ e ∷ []) ≡ occurs site u es + cond (eqb u (site e)) 1 0
  occurs_snoc u e [] = omega arith
  occurs_snoc u e (x ∷ es) = omega (arith, occurs_snoc u e es)

  occurs_length : (n : ℕ) (es : List T) → ((u : ℕ) → n ≤ u → occurs site u es ≡ 0) → length es ≤ sum_below n (λ u. occurs site u es)
  occurs_length n [] off = omega arith
  occurs_length n (x ∷ es) off =
      let on : site x < n = elim (cases_lt (site x) n) [ inl l ↦ l | inr l ↦ absurd (omega (arith, off (site x) l, hit (site x) (site x) refl)) ] in
      omega (arith, occurs_length n es (λ u l. omega (arith, off u l)), sum_point n (λ u. occurs site u es) (λ u. occurs site u (x ∷ es)) (site x) 1 on (omega (arith, hit (site x) (site x) refl)) (λ u l ne. omega (arith, miss u (site x) ne)))

  -- no more wait than there are sites
  pub queued_length : (n : ℕ) (es : List T) (fs : List ℕ) → Queued site n es fs → length es ≤ n
  queued_length n es fs q =
      omega (arith, occurs_length n es q.off, sum_const n 1 (λ u. occurs site u es) (λ u l. elim (cases_eq (mark fs u) 1) [ inl e ↦ omega (arith, q.once u l e) | inr ne ↦ omega (arith, q.none u l ne) ]))

  pub queued_none : (n : ℕ) (es : List T) (fs : List ℕ) → es ≡ [] → ((u : ℕ) → u < n → mark fs u ≡ 0) → Queued site n es fs
  queued_none n es fs e nil = subst (λ w. Queued site n w fs) (sym e) (record {
    off = λ u l. refl;
    once = λ u l one. absurd (omega (arith, nil u l));
    none = λ u l ne. refl;
    most = λ u l. omega (arith, nil u l);
  })

  -- a new entry at the end, its site, which did not wait, marked
  pub queued_wait : (n v : ℕ) (e : T) (es : List T) (fs : List ℕ) → site e ≡ v → n ≤ length fs → v < n → (mark fs v ≡ 1 → ⊥) → Queued site n es fs → Queued site n (es ++ e ∷ []) (set fs v 1)
  queued_wait n v e es fs is long on idle q = record {
    off = λ u l. omega (arith, q.off u l, occurs_snoc u e es, miss u (site e) (λ p. omega arith));
    once = λ u l one. elim (cases_eq u v) [
      | inl same ↦ omega (arith, occurs_snoc u e es, hit u (site e) (omega arith), q.none u l (λ p. idle (sym (ap (mark fs) same) ∙ p)))
      | inr apart ↦ omega (arith, occurs_snoc u e es, miss u (site e) (λ p. apart (omega arith)), q.once u l (omega (arith, mark_there fs v 1 u apart)))
    ];
    none = λ u l ne. elim (cases_eq u v) [
      | inl same ↦ absurd (ne (mark_here fs v 1 u (omega arith) same))
      | inr apart ↦ omega (arith, occurs_snoc u e es, miss u (site e) (λ p. apart (omega arith)), q.none u l (λ p. ne (omega (arith, mark_there fs v 1 u apart))))
    ];
    most = λ u l. elim (cases_eq u v) [
      | inl same ↦ omega (arith, mark_here fs v 1 u (omega arith) same)
      | inr apart ↦ omega (arith, mark_there fs v 1 u apart, q.most u l)
    ];
  }

  -- an unmarked site waits
  pub queued_push : (n v : ℕ) (e : T) (es : List T) (fs : List ℕ) → site e ≡ v → n ≤ length fs → v < n → mark fs v ≡ 0 → Queued site n es fs → Queued site n (es ++ e ∷ []) (set fs v 1)
  queued_push n v e es fs is long on nil = queued_wait n v e es fs is long on (λ p. omega arith)

  -- what comes first is on the board, and marked as waiting
  pub popped_on : (n : ℕ) (e : T) (es : List T) (fs : List ℕ) → Queued site n (e ∷ es) fs → (site e < n) × (mark fs (site e) ≡ 1)
  popped_on n e es fs q =
      let one = hit (site e) (site e) refl in
      let on : site e < n = elim (cases_lt (site e) n) [ inl l ↦ l | inr l ↦ absurd (omega (arith, q.off (site e) l)) ] in
      (on, elim (cases_eq (mark fs (site e)) 1) [ inl p ↦ p | inr ne ↦ absurd (omega (arith, q.none (site e) on ne)) ])

  -- the first entry goes, and its site gets a mark by which it does not wait
  pub queued_pop_as : (n x : ℕ) (e : T) (es : List T) (fs : List ℕ) → (x ≡ 1 → ⊥) → x ≤ 2 → n ≤ length fs → Queued site n (e ∷ es) fs → Queued site n es (set fs (site e) x)
  queued_pop_as n x e es fs ne le long q =
      let was = popped_on n e es fs q in record {
        off = λ u l. omega (arith, q.off u l);
        once = λ u l one. elim (cases_eq u (site e)) [
          | inl same ↦ absurd (ne (sym (mark_here fs (site e) x u (omega arith) same) ∙ one))
          | inr apart ↦ omega (arith, miss u (site e) apart, q.once u l (omega (arith, mark_there fs (site e) x u apart)))
        ];
        none = λ u l not. elim (cases_eq u (site e)) [
          | inl same ↦ omega (arith, hit u (site e) same, q.once u l (ap (mark fs) same ∙ was.1))
          | inr apart ↦ omega (arith, miss u (site e) apart, q.none u l (λ p. not (omega (arith, mark_there fs (site e) x u apart))))
        ];
        most = λ u l. elim (cases_eq u (site e)) [
          | inl same ↦ omega (arith, mark_here fs (site e) x u (omega arith) same)
          | inr apart ↦ omega (arith, mark_there fs (site e) x u apart, q.most u l)
        ];
      }

  -- the first entry goes, its site marked as visited
  pub queued_pop : (n : ℕ) (e : T) (es : List T) (fs : List ℕ) → n ≤ length fs → Queued site n (e ∷ es) fs → Queued site n es (set fs (site e) 2)
  queued_pop n e es fs = queued_pop_as n 2 e es fs (λ p. omega arith) (omega arith)

  -- the first is taken
  pub taken_on : (n : ℕ) (e : T) (es es' : List T) (fs : List ℕ) → es ≡ e ∷ es' → Queued site n es fs → (site e < n) × (mark fs (site e) ≡ 1)
  taken_on n e es es' fs is q = popped_on n e es' fs (subst (λ w. Queued site n w fs) is q)

  pub queued_taken : (n v x : ℕ) (e : T) (es es' : List T) (fs : List ℕ) → es ≡ e ∷ es' → v ≡ site e → Rests x → n ≤ length fs → Queued site n es fs → Queued site n es' (set fs v x)
  queued_taken n v x e es es' fs is on rests long q =
      subst (λ u. Queued site n es' (set fs u x)) (sym on)
      (queued_pop_as n x e es' fs (λ one. elim rests [ inl nil ↦ omega arith | inr two ↦ omega arith ]) (elim rests [ inl nil ↦ omega arith | inr two ↦ omega arith ]) long (subst (λ w. Queued site n w fs) is q))

  -- a site that does not wait gets another mark by which it does not
  pub queued_set : (n v x : ℕ) (es : List T) (fs : List ℕ) → n ≤ length fs → v < n → (mark fs v ≡ 1 → ⊥) → (x ≡ 1 → ⊥) → x ≤ 2 → Queued site n es fs → Queued site n es (set fs v x)
  queued_set n v x es fs long on idle ne le q = record {
    off = q.off;
    once = λ u l one. elim (cases_eq u v) [
      | inl same ↦ absurd (ne (sym (mark_here fs v x u (omega arith) same) ∙ one))
      | inr apart ↦ q.once u l (sym (mark_there fs v x u apart) ∙ one)
    ];
    none = λ u l not. elim (cases_eq u v) [
      | inl same ↦ q.none u l (λ p. idle (sym (ap (mark fs) same) ∙ p))
      | inr apart ↦ q.none u l (λ p. not (mark_there fs v x u apart ∙ p))
    ];
    most = λ u l. elim (cases_eq u v) [
      | inl same ↦ omega (arith, mark_here fs v x u (omega arith) same)
      | inr apart ↦ omega (arith, mark_there fs v x u apart, q.most u l)
    ];
  }

  -- a push where there is room
  pushed_in : (q q' : WaitingList T) (e : T) (r : Bool) → Pushed q e q' r → length (waits q) < room q → waits q' ≡ waits q ++ e ∷ []
  pushed_in q q' e true p l = p.1
  pushed_in q q' e false p l = absurd (omega (arith, p.0))

  -- a site below n that does not wait always finds room
  pub pushed_wait : (n v : ℕ) (e : T) (q q' : WaitingList T) (r : Bool) (fs : List ℕ) → site e ≡ v → n ≤ room q → n ≤ length fs → v < n → (mark fs v ≡ 1 → ⊥) → Queued site n (waits q) fs → Pushed q e q' r
      → waits q' ≡ waits q ++ e ∷ []
  pushed_wait n v e q q' r fs is rooms long on idle wait p =
      pushed_in q q' e r p (omega (arith, queued_length n (waits q ++ e ∷ []) (set fs v 1) (queued_wait n v e (waits q) fs is long on idle wait), length-append (waits q) (e ∷ [])))

  pub pushed_new : (n v : ℕ) (e : T) (q q' : WaitingList T) (r : Bool) (fs : List ℕ) → site e ≡ v → n ≤ room q → n ≤ length fs → v < n → mark fs v ≡ 0 → Queued site n (waits q) fs → Pushed q e q' r
      → waits q' ≡ waits q ++ e ∷ []
  pushed_new n v e q q' r fs is rooms long on nil = pushed_wait n v e q q' r fs is rooms long on (λ p. omega arith)
