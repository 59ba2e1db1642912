-- Sites that were had wait: their marks, and which of them wait.
use Rattle.std.proofs.Common.{◌≡◌, ℕ, ◌+◌, ◌<◌, ◌≤◌, Bool, ◌⊎◌, List, [], ◌∷◌, ◌++◌, length, set, sym, refl, ap, ◌∙◌, subst, inl, inr, append_assoc, append-nil, arith}
use Rattle.std.proofs.lemmas.Bool.{cases_lt, cases_eq}
use Rattle.board.specs.Shape.{Least}
use Rattle.waiting.specs.declared.WaitingList.{WaitingList}
use Rattle.waiting.specs.WaitingLists.{waits, room, Pushed}
use Rattle.settling.specs.Searches.{mark, Queued}
use Rattle.settling.specs.Waits.{Turned, Rising, Joined}
use Rattle.settling.proofs.Queues.{mark_here, mark_there, queued_wait, pushed_wait}

-- no site of P has a mark that reads `idle`
pub turned_none : (P : ℕ → Type 0) (idle : ℕ) (fs : List ℕ) → ((u : ℕ) → P u → u < length fs → mark fs u ≡ idle → ⊥) → Turned P idle fs fs
turned_none P idle fs none = record { all = λ u p l e. absurd (none u p l e); only = λ u. inl refl }

-- the mark of v read `idle`
pub turned_one : (idle v : ℕ) (fs : List ℕ) → v < length fs → mark fs v ≡ idle → Turned (λ u. u ≡ v) idle fs (set fs v 1)
turned_one idle v fs on e = record {
  all = λ u same l read. mark_here fs v 1 u on same;
  only = λ u. elim (cases_eq u v) [
    | inl same ↦ inr (ap (mark fs) same ∙ e, mark_here fs v 1 u on same, same)
    | inr apart ↦ inl (mark_there fs v 1 u apart)
  ];
}

-- one turn after another
pub turned_then : (P Q R : ℕ → Type 0) (idle : ℕ) (fs fs' fs'' : List ℕ) → length fs' ≡ length fs → ((u : ℕ) → R u → P u ⊎ Q u) → ((u : ℕ) → P u → R u) → ((u : ℕ) → Q u → R u)
    → Turned P idle fs fs' → Turned Q idle fs' fs'' → Turned R idle fs fs''
turned_then P Q R idle fs fs' fs'' long split left right t s = record { all = λ u r l e. all u l e (split u r) (t.only u) (s.only u); only = λ u. only u (t.only u) (s.only u) }
  where
    all : (u : ℕ) → u < length fs → mark fs u ≡ idle → P u ⊎ Q u → (mark fs' u ≡ mark fs u) ⊎ ((mark fs u ≡ idle) × (mark fs' u ≡ 1) × P u)
        → (mark fs'' u ≡ mark fs' u) ⊎ ((mark fs' u ≡ idle) × (mark fs'' u ≡ 1) × Q u) → mark fs'' u ≡ 1
    all u l e pq a (inr b) = b.1
    all u l e pq (inr a) (inl b) = b ∙ a.1
    all u l e (inl p) (inl a) (inl b) = b ∙ t.all u p l e
    all u l e (inr q) (inl a) (inl b) = s.all u q (omega arith) (a ∙ e)

    only : (u : ℕ) → (mark fs' u ≡ mark fs u) ⊎ ((mark fs u ≡ idle) × (mark fs' u ≡ 1) × P u) → (mark fs'' u ≡ mark fs' u) ⊎ ((mark fs' u ≡ idle) × (mark fs'' u ≡ 1) × Q u)
        → (mark fs'' u ≡ mark fs u) ⊎ ((mark fs u ≡ idle) × (mark fs'' u ≡ 1) × R u)
    only u (inl a) (inl b) = inl (b ∙ a)
    only u (inl a) (inr b) = inr (sym a ∙ b.0, b.1, right u b.2)
    only u (inr a) (inl b) = inr (a.0, b ∙ a.1, left u a.2)
    only u (inr a) (inr b) = inr (a.0, b.1, left u a.2)

-- no site of P has a mark that reads `idle` any more
pub turned_not : (P : ℕ → Type 0) (idle : ℕ) (fs fs' : List ℕ) → (idle ≡ 1 → ⊥) → Turned P idle fs fs' → (u : ℕ) → P u → u < length fs → mark fs' u ≡ idle → ⊥
turned_not P idle fs fs' ne t u p l e = elim (t.only u) [
  | inl same ↦ ne (sym e ∙ t.all u p l (sym same ∙ e))
  | inr new ↦ ne (sym e ∙ new.1)
]

-- a mark that did not read `idle` stands
pub turned_kept : (P : ℕ → Type 0) (idle : ℕ) (fs fs' : List ℕ) → Turned P idle fs fs' → (u : ℕ) → (mark fs u ≡ idle → ⊥) → mark fs' u ≡ mark fs u
turned_kept P idle fs fs' t u ne = elim (t.only u) [ inl same ↦ same | inr new ↦ absurd (ne new.0) ]

-- and so does that of a site that is not of P
pub turned_others : (P : ℕ → Type 0) (idle : ℕ) (fs fs' : List ℕ) → Turned P idle fs fs' → (u : ℕ) → (P u → ⊥) → mark fs' u ≡ mark fs u
turned_others P idle fs fs' t u not = elim (t.only u) [ inl same ↦ same | inr new ↦ absurd (not new.2) ]

module _ {T : Type 0} (site : T → ℕ) where
  pub waited_queued : (n idle v : ℕ) (e : T) (q q' : WaitingList T) (r : Bool) (fs : List ℕ) → site e ≡ v → mark fs v ≡ idle → Pushed q e q' r → v < n → n ≤ length fs → n ≤ room q → (idle ≡ 1 → ⊥)
      → Queued site n (waits q) fs → Queued site n (waits q') (set fs v 1)
  waited_queued n idle v e q q' r fs is read p on long rooms ne wait =
      let free : mark fs v ≡ 1 → ⊥ = λ one. ne (sym read ∙ one) in
      subst (λ w. Queued site n w (set fs v 1)) (sym (pushed_wait site n v e q q' r fs is rooms long on free wait p)) (queued_wait site n v e (waits q) fs is long on free wait)

-- entries that come one after another
module _ {T : Type 0} (site : T → ℕ) where
  rising_wide : (lo hi hi' : ℕ) (es : List T) → hi ≤ hi' → Rising site lo hi es → Rising site lo hi' es
  rising_wide lo hi hi' [] le r = omega arith
  rising_wide lo hi hi' (e ∷ es) le r = (r.0, rising_wide (site e + 1) hi hi' es le r.1)

  rising_from : (lo lo' hi : ℕ) (es : List T) → lo ≤ lo' → Rising site lo' hi es → Rising site lo hi es
  rising_from lo lo' hi [] le r = omega arith
  rising_from lo lo' hi (e ∷ es) le r = (omega (arith, r.0), r.1)

  rising_append : (lo mid hi : ℕ) (es es' : List T) → Rising site lo mid es → Rising site mid hi es' → Rising site lo hi (es ++ es')
  rising_append lo mid hi [] es' r s = rising_from lo mid hi es' r s
  rising_append lo mid hi (e ∷ es) es' r s = (r.0, rising_append (site e + 1) mid hi es es' r.1 s)

  pub joined_none : (lo hi : ℕ) (es : List T) → lo ≤ hi → Joined site lo hi es es
  joined_none lo hi es le = record { more = []; is = sym (append-nil es); rising = le }

  pub joined_one : (v : ℕ) (e : T) (es es' : List T) → site e ≡ v → es' ≡ es ++ e ∷ [] → Joined site v (v + 1) es es'
  joined_one v e es es' is put = record { more = e ∷ []; is = put; rising = (omega arith, omega arith) }

  pub joined_then : (lo mid at hi : ℕ) (es es' es'' : List T) → mid ≤ at → Joined site lo mid es es' → Joined site at hi es' es'' → Joined site lo hi es es''
  joined_then lo mid at hi es es' es'' le j k = record {
    more = j.more ++ k.more;
    is = k.is ∙ ap (λ x. x ++ k.more) j.is ∙ append_assoc es j.more k.more;
    rising = rising_append lo mid hi j.more k.more j.rising (rising_from mid at hi k.more le k.rising);
  }

  pub joined_wide : (lo hi hi' : ℕ) (es es' : List T) → hi ≤ hi' → Joined site lo hi es es' → Joined site lo hi' es es'
  joined_wide lo hi hi' es es' le j = record { more = j.more; is = j.is; rising = rising_wide lo hi hi' j.more le j.rising }

-- a walk over the sites that v is linked to: those below j have been had wait
pub walked_one : (m : ℕ → ℕ) (idle j u : ℕ) (fs fs' fs'' : List ℕ) → length fs' ≡ length fs → Least m j u → Turned (λ k. (k < j) × (0 < m k)) idle fs fs' → Turned (λ k. k ≡ u) idle fs' fs''
    → Turned (λ k. (k < u + 1) × (0 < m k)) idle fs fs''
walked_one m idle j u fs fs' fs'' long least =
    turned_then (λ k. (k < j) × (0 < m k)) (λ k. k ≡ u) (λ k. (k < u + 1) × (0 < m k)) idle fs fs' fs'' long split
    (λ k p. (omega (arith, p.0, least.from), p.1))
    (λ k same. (omega arith, subst (λ i. 0 < m i) (sym same) least.linked))
  where
    split : (k : ℕ) → (k < u + 1) × (0 < m k) → ((k < j) × (0 < m k)) ⊎ (k ≡ u)
    split k p = elim (cases_eq k u) [
      | inl same ↦ inr same
      | inr apart ↦ elim (cases_lt k j) [
        | inl before ↦ inl (before, p.1)
        | inr from ↦ absurd (omega (arith, least.before k from (omega (arith, p.0)), p.1))
      ]
    ]

pub walked_whole : (m : ℕ → ℕ) (idle j : ℕ) (fs fs' : List ℕ) → ((k : ℕ) → j ≤ k → m k ≡ 0) → Turned (λ k. (k < j) × (0 < m k)) idle fs fs' → Turned (λ k. 0 < m k) idle fs fs'
walked_whole m idle j fs fs' past t = record {
  all = λ u p l e. t.all u (elim (cases_lt u j) [ inl before ↦ (before, p) | inr from ↦ absurd (omega (arith, past u from)) ]) l e;
  only = λ u. elim (t.only u) [ inl same ↦ inl same | inr new ↦ inr (new.0, new.1, new.2.1) ];
}

module _ {T : Type 0} (site : T → ℕ) where
  -- the next site of the walk joins
  pub joined_next : (m : ℕ → ℕ) (j u i : ℕ) (es es' es'' : List T) → Least m j u → i ≡ u + 1 → Joined site 0 j es es' → Joined site u (u + 1) es' es'' → Joined site 0 i es es''
  joined_next m j u i es es' es'' least is a b = subst (λ k. Joined site 0 k es es'') (sym is) (joined_then site 0 j u (u + 1) es es' es'' (omega (arith, least.from)) a b)
