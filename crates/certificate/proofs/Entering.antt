-- How the sites that have fired come into the set.
use Rattle.std.proofs.Common.{◌≡◌, ℕ, ◌+◌, ◌<◌, ◌≤◌, List, length, ap, ◌∙◌, subst, inl, inr, arith}
use Rattle.std.proofs.lemmas.Bool.{cases_eq}
use Rattle.settling.specs.Searches.{mark}
use Rattle.settling.specs.Waits.{Turned}
use Rattle.settling.proofs.Waited.{turned_others}
use Rattle.certificate.specs.Sets.{Awaits}

-- of m sites those below n that have fired are marked 1 and wait, and no other is marked
pub record Entered (m n : ℕ) (w : ℕ → ℕ) (es fs : List ℕ) : Type 0 where
  pub queued : Awaits m es fs
  pub in_set : (u : ℕ) → u < n → 1 ≤ w u → mark fs u ≡ 1
  pub off_set : (u : ℕ) → u < n → w u ≡ 0 → mark fs u ≡ 0
  pub rest : (u : ℕ) → n ≤ u → mark fs u ≡ 0

pub entered_none : (m : ℕ) (w : ℕ → ℕ) (es fs : List ℕ) → length fs ≡ m → Awaits (length fs) es fs → ((u : ℕ) → mark fs u ≡ 0) → Entered m 0 w es fs
entered_none m w es fs size q nil = record {
  queued = subst (λ k. Awaits k es fs) size q;
  in_set = λ u l. absurd (omega arith);
  off_set = λ u l. absurd (omega arith);
  rest = λ u l. nil u;
}

-- one site more that has not fired
pub entered_skip : (m n : ℕ) (w : ℕ → ℕ) (es fs : List ℕ) → w n ≡ 0 → Entered m n w es fs → Entered m (n + 1) w es fs
entered_skip m n w es fs nil e = record {
  queued = e.queued;
  in_set = λ u l some. elim (cases_eq u n) [
    | inl same ↦ absurd (omega (arith, ap w same))
    | inr apart ↦ e.in_set u (omega arith) some
  ];
  off_set = λ u l none. elim (cases_eq u n) [
    | inl same ↦ e.rest u (omega arith)
    | inr apart ↦ e.off_set u (omega arith) none
  ];
  rest = λ u l. e.rest u (omega arith);
}

-- one that has, and was had wait
pub entered_more : (m n : ℕ) (w : ℕ → ℕ) (es fs es' fs' : List ℕ) → n < length fs → 0 < w n → Entered m n w es fs → Turned (λ u. u ≡ n) 0 fs fs'
    → length fs' ≡ m → Awaits (length fs') es' fs' → Entered m (n + 1) w es' fs'
entered_more m n w es fs es' fs' long some e t size after = record {
  queued = subst (λ k. Awaits k es' fs') size after;
  in_set = λ u l some'. elim (cases_eq u n) [
    | inl same ↦ t.all u same (omega arith) (e.rest u (omega arith))
    | inr apart ↦ turned_others (λ k. k ≡ n) 0 fs fs' t u apart ∙ e.in_set u (omega arith) some'
  ];
  off_set = λ u l none. elim (cases_eq u n) [
    | inl same ↦ absurd (omega (arith, ap w same))
    | inr apart ↦ turned_others (λ k. k ≡ n) 0 fs fs' t u apart ∙ e.off_set u (omega arith) none
  ];
  rest = λ u l. turned_others (λ k. k ≡ n) 0 fs fs' t u (λ same. omega arith) ∙ e.rest u (omega arith);
}
