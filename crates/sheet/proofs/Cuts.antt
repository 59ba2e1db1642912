-- Laws of parts: what stands before the first stop is the first part.
use Rattle.std.proofs.Common.{◌≡◌, ℕ, suc, ◌+◌, ◌<◌, ◌≤◌, true, false, eqb, leb, List, [], ◌∷◌, ◌++◌, length, get_or, take, drop, Some, None, Option, MatchOption, unwrap_or, sym, refl, ap, ◌∙◌, subst, inl, inr, arith, take-append-drop}
use Rattle.std.specs.List.{HoldsAt, AllWithin}
use Rattle.std.proofs.lemmas.List.{drop-drop, drop_more, get_or-take, length-take-le, length-drop, take_all, drop_all}
use Rattle.std.proofs.lemmas.Bool.{eq-eqb, ne_eqb, le-leb, lt-leb, cond-true, cond-false, cond_both, cases_lt}
use Rattle.sheet.specs.Parts.{parts, fronted, ahead, unended, marked, lines}

-- no stop in a list
abbrev pub Free : ℕ → List ℕ → Type 0
Free stop w = (k : ℕ) → k < length w → get_or w k 0 ≡ stop → ⊥

free_tail : (stop x : ℕ) (w : List ℕ) → Free stop (x ∷ w) → Free stop w
free_tail stop x w f k h = f (suc k) (omega arith)

pub parts_stop : (stop : ℕ) (rest : List ℕ) → parts stop (stop ∷ rest) ≡ [] ∷ parts stop rest
unfolding parts
parts_stop stop rest = cond-true (eqb stop stop) _ _ (eq-eqb stop stop refl)

pub parts_other : (stop x : ℕ) (xs : List ℕ) → (x ≡ stop → ⊥) → parts stop (x ∷ xs) ≡ fronted x (parts stop xs)
unfolding parts
parts_other stop x xs ne = cond-false (eqb x stop) _ _ (ne_eqb x stop ne)

pub parts_cut : (stop : ℕ) (w rest : List ℕ) → Free stop w → parts stop (w ++ stop ∷ rest) ≡ w ∷ parts stop rest
unfolding fronted
parts_cut stop [] rest f = parts_stop stop rest
parts_cut stop (x ∷ w) rest f = parts_other stop x (w ++ stop ∷ rest) (f 0 (omega arith)) ∙ ap (fronted x) (parts_cut stop w rest (free_tail stop x w f))

pub parts_last : (stop : ℕ) (w : List ℕ) → Free stop w → parts stop w ≡ w ∷ []
unfolding parts fronted
parts_last stop [] f = refl
parts_last stop (x ∷ w) f = parts_other stop x w (f 0 (omega arith)) ∙ ap (fronted x) (parts_last stop w (free_tail stop x w f))

-- no stop stands before i
free_before : (stop : ℕ) (w : List ℕ) (i : ℕ) → i ≤ length w → AllWithin (λ b. b ≡ stop → ⊥) w 0 i → Free stop (take i w)
free_before stop w i le free k h is =
    let lt : k < i = omega (arith, length-take-le i w le) in
    free k 0 (omega arith) lt (sym (get_or-take i w k 0 lt) ∙ is)

-- where the first stop stands, if any does
abbrev pub FirstStop : ℕ → List ℕ → Option ℕ → Type 0
FirstStop stop w r = MatchOption r (AllWithin (λ b. b ≡ stop → ⊥) w 0 (length w)) (λ i. (i < length w) × HoldsAt (λ b. b ≡ stop) w i × AllWithin (λ b. b ≡ stop → ⊥) w 0 i)

ahead_first : (stop : ℕ) (s : List ℕ) (at : ℕ) (r : Option ℕ) → at ≤ length s → FirstStop stop (drop at s) r → ahead stop s at ≡ take (unwrap_or r (length (drop at s))) (drop at s) ∷ ahead stop s (at + (unwrap_or r (length (drop at s)) + 1))
ahead_first stop s at None le free =
    let w = drop at s in
    let n = length w in
    let here : ahead stop s at ≡ parts stop w = cond-true (leb at (length s)) _ _ (le-leb at (length s) le) in
    let past : length s < at + (n + 1) = omega (arith, length-drop at s) in
    let end : ahead stop s (at + (n + 1)) ≡ [] = cond-false (leb (at + (n + 1)) (length s)) _ _ (lt-leb (at + (n + 1)) (length s) past) in
    let whole : take n w ≡ w = take_all n w (omega arith) in
    here ∙ ap (parts stop) (sym whole) ∙ parts_last stop (take n w) (free_before stop w n (omega arith) free) ∙ ap (λ r. take n w ∷ r) (sym end)
ahead_first stop s at (Some i) le first =
    let w = drop at s in
    let here : ahead stop s at ≡ parts stop w = cond-true (leb at (length s)) _ _ (le-leb at (length s) le) in
    let more : at + (i + 1) ≤ length s = omega (arith, length-drop at s, first.0) in
    let rest : ahead stop s (at + (i + 1)) ≡ parts stop (drop (at + (i + 1)) s) = cond-true (leb (at + (i + 1)) (length s)) _ _ (le-leb (at + (i + 1)) (length s) more) in
    let cut : w ≡ take i w ++ stop ∷ drop (at + (i + 1)) s =
    sym (take-append-drop i w) ∙ ap (λ r. take i w ++ r) (drop_more w i 0 first.0 ∙ ap (λ b. b ∷ drop (i + 1) w) (first.1 0) ∙ ap (λ r. stop ∷ r) (drop-drop (i + 1) at s)) in
    here ∙ ap (parts stop) cut ∙ parts_cut stop (take i w) (drop (at + (i + 1)) s) (free_before stop w i (omega (arith, first.0)) first.2) ∙ ap (λ r. take i w ∷ r) (sym rest)

-- one part taken: the cursor goes from `at` behind the first stop, or behind the end where none is left
pub ahead_taken : (stop : ℕ) (s : List ℕ) (at : ℕ) (w : List ℕ) (r : Option ℕ) (e : ℕ) → w ≡ drop at s → at ≤ length s → FirstStop stop w r → e ≡ unwrap_or r (length w) → ahead stop s at ≡ take e w ∷ ahead stop s (at + (e + 1))
ahead_taken stop s at w r e same le first is = rw (is, same) (ahead_first stop s at r le (subst (λ (v : List ℕ). FirstStop stop v r) same first))

pub parts_some : (stop : ℕ) (xs : List ℕ) → (q : List ℕ) × (qs : List (List ℕ)) × (parts stop xs ≡ q ∷ qs)
unfolding parts fronted
parts_some stop [] = ([], [], refl)
parts_some stop (x ∷ xs) =
    cond_both (eqb x stop) _ _ (λ z. (q : List ℕ) × (qs : List (List ℕ)) × (z ≡ q ∷ qs))
    (λ _. ([], parts stop xs, refl))
    (λ _. let more = parts_some stop xs in (x ∷ more.0, more.1, ap (fronted x) more.2))

pub lines_none : (s : List ℕ) (at : ℕ) → length s ≤ at → lines (drop at s) ≡ []
unfolding lines marked unended parts
lines_none s at past = ap lines (drop_all at s past)

unended_some : (w : List ℕ) → 0 < length w → unended w ≡ record { bytes = w; ended = false } ∷ []
unfolding unended
unended_some [] some = absurd (omega arith)
unended_some (b ∷ w) some = refl

-- one line taken
pub line_taken : (s w : List ℕ) (at next : ℕ) → at < length s → next ≤ length s + 1 → next ≡ at + length w + 1 → ahead 10 s at ≡ w ∷ ahead 10 s next → lines (drop at s) ≡ record { bytes = w; ended = leb next (length s) } ∷ lines (drop next s)
unfolding lines marked
line_taken s w at next lt within moved taken =
    let here : parts 10 (drop at s) ≡ w ∷ ahead 10 s next = sym (cond-true (leb at (length s)) _ _ (le-leb at (length s) (omega arith))) ∙ taken in
    elim (cases_lt (length s) next) [
      | inl past ↦
          let last : ahead 10 s next ≡ [] = cond-false (leb next (length s)) _ _ (lt-leb next (length s) past) in
          ap marked (here ∙ ap (λ r. w ∷ r) last) ∙ unended_some w (omega arith)
          ∙ ap (λ b. record { bytes = w; ended = b } ∷ []) (sym (lt-leb next (length s) past))
          ∙ ap (λ r. record { bytes = w; ended = leb next (length s) } ∷ r) (sym (lines_none s next (omega arith)))
      | inr more ↦
          let rest : ahead 10 s next ≡ parts 10 (drop next s) = cond-true (leb next (length s)) _ _ (le-leb next (length s) more) in
          let some = parts_some 10 (drop next s) in
          ap marked (here ∙ ap (λ r. w ∷ r) (rest ∙ some.2))
          ∙ ap (λ r. record { bytes = w; ended = true } ∷ r) (ap marked (sym some.2))
          ∙ ap (λ b. record { bytes = w; ended = b } ∷ lines (drop next s)) (sym (le-leb next (length s) more))
    ]

pub single_is : (w : List ℕ) (b : ℕ) → length w ≡ 1 → get_or w 0 0 ≡ b → w ≡ b ∷ []
single_is [] b one is = absurd (omega arith)
single_is (x ∷ []) b one is = ap (λ y. y ∷ []) is
single_is (x ∷ y ∷ w) b one is = absurd (omega arith)
