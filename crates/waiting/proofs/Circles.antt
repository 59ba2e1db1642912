-- What a push and a pop leave waiting.
use Rattle.std.proofs.Common.{◌≡◌, ℕ, zero, suc, ◌+◌, ◌-◌, ◌<◌, ◌≤◌, eqb, List, [], ◌∷◌, ◌++◌, length, get_or, take, drop, set, MatchBool, sym, ap, ◌∙◌, subst, inl, inr, arith, length-drop, length-set, eq-eqb, ne_eqb}
use Rattle.std.proofs.lemmas.List.{take-append-le, length-take-le, drop-append-le, drop-set-add, drop-set-lt, take_more_set, set-append_right, drop_more, drop_at, get_or_append_left}
use Rattle.std.proofs.lemmas.Bool.{cases_eq}
use Rattle.waiting.specs.Slots.{waiting, SlotAfter}

push_near : {A : Type 0} (s : List A) (h n : ℕ) (x : A) → h + n < length s → waiting (set s (h + n) x) h (n + 1) ≡ waiting s h n ++ x ∷ []
push_near s h n x lt =
    let t = set s (h + n) x in
    let same : length t ≡ length s = length-set s (h + n) x in
    let left = length-drop h s in
    let left' = length-drop h t in
    ap (take (n + 1)) (drop-append-le h t t (omega arith))
    ∙ take-append-le (n + 1) (drop h t) t (omega arith)
    ∙ ap (take (n + 1)) (drop-set-add h s n x)
    ∙ take_more_set (drop h s) n x (omega arith)
    ∙ ap (λ w. w ++ x ∷ []) (sym (ap (take n) (drop-append-le h s s (omega arith)) ∙ take-append-le n (drop h s) s (omega arith)))

push_round : {A : Type 0} (s : List A) (h n : ℕ) (x : A) → h ≤ length s → n < length s → length s - h ≤ n → waiting (set s (n - (length s - h)) x) h (n + 1) ≡ waiting s h n ++ x ∷ []
push_round s h n x le lt past =
    let a = n - (length s - h) in
    let t = set s a x in
    let same : length t ≡ length s = length-set s a x in
    let left = length-drop h s in
    let grown : length (drop h s ++ s) ≡ length (drop h s) + length s = lib.ListN.length-append (drop h s) s in
    ap (take (n + 1)) (drop-append-le h t t (omega arith) ∙ ap (λ d. d ++ t) (drop-set-lt h s a x (omega arith)) ∙ sym (set-append_right (drop h s) s (length s - h) n x left past))
    ∙ take_more_set (drop h s ++ s) n x (omega arith)
    ∙ ap (λ w. take n w ++ x ∷ []) (sym (drop-append-le h s s le))

-- an entry in the slot n places after h waits as the last
pub push_after : {A : Type 0} (s : List A) (h n at : ℕ) (x : A) → h ≤ length s → n < length s → SlotAfter h n (length s) at → waiting (set s at x) h (n + 1) ≡ waiting s h n ++ x ∷ []
push_after s h n at x le less (inl near) = ap (λ a. waiting (set s a x) h (n + 1)) near.1 ∙ push_near s h n x (omega arith)
push_after s h n at x le less (inr round) = ap (λ a. waiting (set s a x) h (n + 1)) round.1 ∙ push_round s h n x le less round.0

take_cons : {A : Type 0} (n : ℕ) (x : A) (xs : List A) → 0 < n → take n (x ∷ xs) ≡ x ∷ take (n - 1) xs
take_cons zero x xs l = absurd (omega arith)
take_cons (suc n) x xs l = let e : suc n - 1 ≡ n = omega arith in ap (λ k. x ∷ take k xs) (sym e)

pop_near : {A : Type 0} (s : List A) (h n : ℕ) (d : A) → h < length s → 0 < n → waiting s h n ≡ get_or s h d ∷ waiting s (h + 1) (n - 1)
pop_near s h n d lt some =
    let grown : length (s ++ s) ≡ length s + length s = lib.ListN.length-append s s in
    ap (take n) (drop_more (s ++ s) h d (omega arith))
    ∙ take_cons n _ _ some
    ∙ ap (λ y. y ∷ waiting s (h + 1) (n - 1)) (get_or_append_left s s d h lt)

pop_round : {A : Type 0} (s : List A) (h n : ℕ) (d : A) → h ≡ length s → 0 < n → n ≤ length s → waiting s h n ≡ get_or s 0 d ∷ waiting s (0 + 1) (n - 1)
pop_round s h n d e some le =
    let left = length-drop (0 + 1) s in
    ap (take n) (drop_at s s h (sym e) ∙ drop_more s 0 d (omega arith))
    ∙ take_cons n _ _ some
    ∙ ap (λ w. get_or s 0 d ∷ w) (sym (ap (take (n - 1)) (drop-append-le (0 + 1) s s (omega arith)) ∙ take-append-le (n - 1) (drop (0 + 1) s) s (omega arith)))

-- the entry in the slot h is the first that waits
pub pop_after : {A : Type 0} (s : List A) (h n at : ℕ) (d : A) → h ≤ length s → 0 < n → n ≤ length s → SlotAfter h 0 (length s) at → waiting s h n ≡ get_or s at d ∷ waiting s (at + 1) (n - 1)
pop_after s h n at d le some most (inl near) =
    let e : at ≡ h = omega arith in
    pop_near s h n d (omega arith) some ∙ ap (λ a. get_or s a d ∷ waiting s (a + 1) (n - 1)) (sym e)
pop_after s h n at d le some most (inr round) =
    let e : at ≡ 0 = omega arith in
    pop_round s h n d (omega arith) some most ∙ ap (λ a. get_or s a d ∷ waiting s (a + 1) (n - 1)) (sym e)

pub length_waiting : {A : Type 0} (s : List A) (h n : ℕ) → h ≤ length s → n ≤ length s → length (waiting s h n) ≡ n
length_waiting s h n le most = length-take-le n (drop h (s ++ s)) (omega (arith, length-drop h (s ++ s), lib.ListN.length-append s s))

-- n entries wait in k slots: all slots are taken if and only if n is k
pub full_test : (n k l : ℕ) → l ≡ n → n ≤ k → MatchBool (eqb n k) (l ≡ k) (l < k)
full_test n k l e le = elim (cases_eq n k) [
  | inl same ↦ subst (λ t. MatchBool t (l ≡ k) (l < k)) (sym (eq-eqb n k same)) (e ∙ same)
  | inr apart ↦ subst (λ t. MatchBool t (l ≡ k) (l < k)) (sym (ne_eqb n k apart)) (omega arith)
]
