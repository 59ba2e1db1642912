-- The waiting sites of a settling and their marks.
use Rattle.std.proofs.Common.{◌≡◌, ℕ, ◌+◌, ◌<◌, ◌≤◌, ◌≢◌, List, [], ◌∷◌, length, set, ap, ◌∙◌, subst, inl, inr, arith, length-set}
use Rattle.std.proofs.lemmas.Bool.{cases_lt, cases_eq}
use Rattle.board.specs.Shape.{Shape}
use Rattle.firing.specs.Firing.{CanFire}
use Rattle.firing.specs.Firing.{at}
use Rattle.settling.specs.Searches as Searches
use Rattle.settling.specs.Searches.{mark, occurs}
use Rattle.settling.specs.Waits.{Turned}
use Rattle.settling.specs.Marks.{Queued, Covered}
use Rattle.settling.proofs.Queues as Queues
use Rattle.settling.proofs.Queues.{mark_here, mark_there}
use Rattle.settling.proofs.Waited.{turned_kept}

-- no more wait than there are sites
pub queued_length : (n : ℕ) (ws fs : List ℕ) → Queued n ws fs → length ws ≤ n
queued_length n ws fs q = Queues.queued_length (λ v. v) n ws fs q.queued

-- who waits is on the board
pub popped_on : (n v : ℕ) (ws fs : List ℕ) → Queued n (v ∷ ws) fs → v < n
popped_on n v ws fs q = (Queues.popped_on (λ u. u) n v ws fs q.queued).0

low_set : (n m v x : ℕ) (fs : List ℕ) → v < length fs → x ≤ 1 → ((u : ℕ) → u < n → (u ≢ v) → mark fs u ≤ 1) → (u : ℕ) → u < n → mark (set fs v x) u ≤ 1
low_set n m v x fs on le low u l = elim (cases_eq u v) [
  | inl same ↦ omega (arith, mark_here fs v x u on same)
  | inr apart ↦ omega (arith, mark_there fs v x u apart, low u l apart)
]

-- the first has waited, and loses its mark
pub queued_pop : (n v : ℕ) (ws fs : List ℕ) → n ≤ length fs → Queued n (v ∷ ws) fs → Queued n ws (set fs v 0)
queued_pop n v ws fs long q = record {
  queued = Queues.queued_pop_as (λ u. u) n 0 v ws fs (λ p. omega arith) (omega arith) long q.queued;
  low = low_set n n v 0 fs (omega (arith, popped_on n v ws fs q)) (omega arith) (λ u l ne. q.low u l);
}

-- sites without mark were had wait
pub queued_turned : (P : ℕ → Type 0) (n : ℕ) (ws fs ws' fs' : List ℕ) → Queued n ws fs → Turned P 0 fs fs' → Searches.Queued (λ v. v) n ws' fs' → Queued n ws' fs'
queued_turned P n ws fs ws' fs' q t after = record {
  queued = after;
  low = λ u l. elim (t.only u) [ inl same ↦ omega (arith, q.low u l) | inr new ↦ omega (arith, new.1) ];
}

-- each of them waits now
pub turned_on : (P : ℕ → Type 0) (fs fs' : List ℕ) → Turned P 0 fs fs' → (u : ℕ) → P u → u < length fs → mark fs u ≤ 1 → mark fs' u ≡ 1
turned_on P fs fs' t u p l low = elim (cases_eq (mark fs u) 0) [
  | inl e ↦ t.all u p l e
  | inr ne ↦ omega (arith, turned_kept P 0 fs fs' t u ne)
]

-- a site that has waited and cannot fire
pub covered_pop : (b : Shape) (h : ℕ → ℕ) (v : ℕ) (fs : List ℕ) → (CanFire b h v → ⊥) → Covered b h fs → Covered b h (set fs v 0)
covered_pop b h v fs not all u l can = elim (cases_eq u v) [
  | inl same ↦ absurd (not (subst (CanFire b h) same can))
  | inr apart ↦ mark_there fs v 0 u apart ∙ all u l can
]

-- a site that has waited and fired until it cannot
pub covered_fire : (b : Shape) (h h' : ℕ → ℕ) (v : ℕ) (fs ws fs' : List ℕ) → b.sites ≤ length fs → ((u : ℕ) → u < b.sites → u ≢ v → b.m v u ≡ 0 → h' u ≡ h u)
    → (CanFire b h' v → ⊥) → Covered b h fs → Queued b.sites ws (set fs v 0) → Turned (λ u. 0 < b.m v u) 0 (set fs v 0) fs' → Covered b h' fs'
covered_fire b h h' v fs ws fs' long same not all q t u l can = elim (cases_eq u v) [
  | inl here ↦ absurd (not (subst (CanFire b h') here can))
  | inr apart ↦ elim (cases_lt 0 (b.m v u)) [
    | inl some ↦ turned_on (λ k. 0 < b.m v k) (set fs v 0) fs' t u some (omega (arith, length-set fs v 0)) (q.low u l)
    | inr none ↦
        let was : CanFire b h u = (can.0, omega (arith, can.1, same u l apart (omega arith))) in
        let one : mark (set fs v 0) u ≡ 1 = mark_there fs v 0 u apart ∙ all u l was in
        turned_kept (λ k. 0 < b.m v k) 0 (set fs v 0) fs' t u (λ e. omega arith) ∙ one
  ]
]

-- of m sites those below n that can fire wait, and no other
abbrev pub Scanned : (ℕ → Type 0) → ℕ → ℕ → List ℕ → List ℕ → Type 0
Scanned P m n ws fs = Queued m ws fs × ((u : ℕ) → u < n → P u → at fs u ≡ 1)

pub scanned_none : (P : ℕ → Type 0) (m : ℕ) (ws fs : List ℕ) → length fs ≡ m → Searches.Queued (λ v. v) (length fs) ws fs → ((u : ℕ) → mark fs u ≡ 0) → Scanned P m 0 ws fs
scanned_none P m ws fs size q nil = (record { queued = subst (λ n. Searches.Queued (λ v. v) n ws fs) size q; low = λ u l. omega (arith, nil u) }, λ u l. absurd (omega arith))

pub scanned_skip : (P : ℕ → Type 0) (m n : ℕ) (ws fs : List ℕ) → Scanned P m n ws fs → (P n → ⊥) → Scanned P m (n + 1) ws fs
scanned_skip P m n ws fs s not = (
  s.0,
  λ u l p. elim (cases_eq u n) [
    | inl same ↦ absurd (not (subst P same p))
    | inr apart ↦ s.1 u (omega arith) p
  ],
)

pub scanned_wait : (P : ℕ → Type 0) (m n : ℕ) (ws fs ws' fs' : List ℕ) → n < m → length fs ≡ m → Scanned P m n ws fs → Turned (λ u. u ≡ n) 0 fs fs'
    → length fs' ≡ m → Searches.Queued (λ v. v) (length fs') ws' fs' → Scanned P m (n + 1) ws' fs'
scanned_wait P m n ws fs ws' fs' on long s t size after = (
  queued_turned (λ u. u ≡ n) m ws fs ws' fs' s.0 t (subst (λ k. Searches.Queued (λ v. v) k ws' fs') size after),
  λ u l p. elim (cases_eq u n) [
    | inl same ↦ turned_on (λ k. k ≡ n) fs fs' t u same (omega arith) (s.0.low u (omega arith))
    | inr apart ↦
        let one : mark fs u ≡ 1 = s.1 u (omega arith) p in
        turned_kept (λ k. k ≡ n) 0 fs fs' t u (λ e. omega arith) ∙ one
  ],
)

-- nothing waits: no site has the mark 1
pub none_marked : (n : ℕ) (ws fs : List ℕ) → ws ≡ [] → Queued n ws fs → (u : ℕ) → u < n → mark fs u ≡ 1 → ⊥
none_marked n ws fs e q u l one = omega (arith, q.queued.once u l one, ap (occurs (λ v. v) u) e)
