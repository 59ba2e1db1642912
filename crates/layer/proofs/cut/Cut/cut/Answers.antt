-- What is left to show of `cut`.
use Rattle.std.proofs.Common.{◌≡◌, ℕ, ◌<◌, ◌≤◌, true, false, not, List, length, get_or, Some, None, Option, Ok, refl, sym, ap, ◌∙◌, subst, inl, inr, arith, length-set, All, position, nat_lt, slice_index_or, slice_set}
use Rattle.std.specs.Option.{is_some}
use Rattle.std.specs.List.{refill, position_or_len}
use Rattle.std.proofs.lemmas.Bool.{cases_lt, cond-true, lt-ltb, eqb-true, eqb-false, false≢true}
use Rattle.std.proofs.lemmas.Option.{none-some}
use Rattle.std.proofs.lemmas.List.Quantifiers.{position-Some}
use Rattle.std.proofs.lemmas.List.Elements.{All-set, All-push}
use Rattle.std.proofs.lemmas.List.Sums.{fails_before_first}
use Rattle.arrayvec.proofs.ArrayVecLemmas.{items-with_items}
use Rattle.board.specs.declared.link.Link.{Link}
use Rattle.board.specs.declared.link.End.{End}
use Rattle.board.specs.Links.{no_link, alike, Fit}
use Rattle.board.specs.Tables.{fit_quiet}
use Rattle.layer.specs.Cuts.{New, Cutting, raised}
use Rattle.layer.specs.Cutting.{raise_fits, new_fits, new_cut, new_idle, raised_cut, raised_idle}
use Rattle.layer.proofs.cut.Cut.cut.Goals as goal
use Rattle.layer.proofs.cut.Cut.cut.Goals.{else-is_none-via-then-is_none+else-is_full, else-is_none-via-else-is_none}

moved_fit : (a : ℕ) (b : End) (n m : ℕ) → m ≡ n → Fit m a b → Fit n a b
moved_fit a b n m e h = let P : ℕ → Type 0 = λ n. Fit n a b in subst P e h

none_of : (r : Option ℕ) → is_some r ≡ false → r ≡ None
none_of None e = refl
none_of (Some i) e = absurd (cc)

-- the search for the pair came to no entry, or to one
found_none : (xs : List Link) (a : ℕ) (b : End) → position (λ l. alike l.site l.other a b) xs ≡ None → New xs a b
found_none xs a b e k d on same =
    let p = λ (l : Link). alike l.site l.other a b in
    let long : length xs ≤ position_or_len p xs
    = elim (cases_lt (position_or_len p xs) (length xs)) [
      | inl l ↦ absurd (none-some _ (sym e ∙ cond-true (nat_lt (position_or_len p xs) (length xs)) (Some (position_or_len p xs)) None (lt-ltb _ _ l)))
      | inr l ↦ l
    ] in
    false≢true (sym (fails_before_first p xs k d (omega arith)) ∙ same)

found_at : (xs : List Link) (a : ℕ) (b : End) (r : Option ℕ) (i : ℕ) → r ≡ position (λ l. alike l.site l.other a b) xs → r ≡ Some i
    → (i < length xs) × (alike (get_or xs i no_link).site (get_or xs i no_link).other a b ≡ true)
found_at xs a b r i e is = let h = position-Some (λ (l : Link). alike l.site l.other a b) xs i no_link (sym e ∙ is) in (h.0, h.1)

found_some : (xs : List Link) (a : ℕ) (b : End) (r : Option ℕ) → r ≡ position (λ l. alike l.site l.other a b) xs → is_some r ≡ true → New xs a b → ⊥
found_some xs a b (Some i) e t new =
    let h = found_at xs a b (Some i) i e refl in
    new i no_link h.0 h.1
found_some xs a b None e t new = absurd (cc)

-- the entries once the one at i is changed in place
written : (xs ys : List Link) (i k : ℕ) → ys ≡ xs → refill (length xs) xs (slice_set ys i (raised (slice_index_or ys i no_link) k)) ≡ slice_set xs i (raised (slice_index_or xs i no_link) k)
written xs ys i k e =
    ap (λ (zs : List Link). refill (length xs) xs (slice_set zs i (raised (slice_index_or zs i no_link) k))) e
    ∙ items-with_items (record { items = xs }) (slice_set xs i (raised (slice_index_or xs i no_link) k)) (length-set xs i _)

pub returns-then-is_full-clause-made : goal.returns-then-is_full-clause-made
returns-then-is_full-clause-made g c =
    let x = g.B.Board.shape c.args.self.now.below in
    let xs = c.args.self.now.entries.items in
    let fit = moved_fit c.args.a c.args.b x.sites _ c.count.ensures c.in_default.ensures in
    let new : New xs c.args.a c.args.b = found_none xs c.args.a c.args.b (sym c.find-found.ensures ∙ none_of _ (c.is_none.ensures ∙ ap not c.if-is_none.true)) in
    let full : length xs ≡ 32 = eqb-true (length xs) 32 (sym c.is_full.ensures.value ∙ c.if-is_full.true) in
    rw c.refuse-then-is_full.ensures (record { by = inr ((λ p h. omega arith), inr (fit_quiet x.sites c.args.a c.args.b fit, inl (refl, (refl, full, new)))); from = refl }, refl)

pub returns-then-k-from-clause-made : goal.returns-then-k-from-clause-made
returns-then-k-from-clause-made g c =
    let x = g.B.Board.shape c.args.self.now.below in
    let xs = c.args.self.now.entries.items in
    let fit = moved_fit c.args.a c.args.b x.sites _ c.count.ensures c.in_default.ensures in
    let room : length xs ≡ 32 → New xs c.args.a c.args.b → ⊥
    = λ full new. elim c.else-is_none.branch [
      | else-is_none-via-then-is_none+else-is_full w ↦ eqb-false (length xs) 32 (sym w.is_full.ensures.value ∙ w.if-is_full.false) full
      | else-is_none-via-else-is_none w ↦ found_some xs c.args.a c.args.b c.find-found.result c.find-found.ensures (c.is_none.ensures ∙ ap not w.if-is_none.false) new
    ] in
    rw c.refuse-then-k-from.ensures (record { by = inr ((λ p h. omega arith), inr (fit_quiet x.sites c.args.a c.args.b fit, inr ((λ p h. room h.1 h.2), inl (refl, (refl, omega arith))))); from = refl }, refl)

pub overflow_add-deref_mut : goal.overflow_add-deref_mut
overflow_add-deref_mut g c =
    let e = c.args.self.now in
    let i = c.in-Some-found.i in
    let h = found_at e.entries.items c.args.a c.args.b _ i c.find-found.ensures c.in-Some-found.is in
    rw c.deref_mut.ensures.value (omega (arith, raise_fits (g.B.Board.shape e.below) (g.met.B.Board.sound e.below) i e.entries.items h.0 c.args.a c.args.b c.args.k (omega arith) h.1 (omega arith)))

pub invariant_of-self : goal.invariant_of-self
invariant_of-self g c =
    let e = c.args.self.now in
    let xs = e.entries.items in
    let i = c.in-Some-found.i in
    let h = found_at xs c.args.a c.args.b _ i c.find-found.ensures c.in-Some-found.is in
    let small = raise_fits (g.B.Board.shape e.below) (g.met.B.Board.sound e.below) i xs h.0 c.args.a c.args.b c.args.k (omega arith) h.1 (omega arith) in
    let P : List Link → Type 0 = λ ys. All (λ l. l.count ≤ 500000) ys in
    let done = written xs c.deref_mut.result.now i c.args.k c.deref_mut.ensures.value in
    record {
      room = omega (arith, ap length done, length-set xs i (raised (slice_index_or xs i no_link) c.args.k), e.room);
      low = subst P (sym done) (All-set (λ l. l.count ≤ 500000) xs i (raised (slice_index_or xs i no_link) c.args.k) small e.low);
    }

pub returns-in-Some-found-clause-made : goal.returns-in-Some-found-clause-made
returns-in-Some-found-clause-made g c =
    let e = c.args.self.now in
    let x = g.B.Board.shape e.below in
    let xs = e.entries.items in
    let i = c.in-Some-found.i in
    let h = found_at xs c.args.a c.args.b _ i c.find-found.ensures c.in-Some-found.is in
    let fit = moved_fit c.args.a c.args.b x.sites _ c.count.ensures c.in_default.ensures in
    let P : List Link → Type 0 = λ ys. Cutting x xs ys c.args.a c.args.b c.args.k (Ok tt) in
    subst P (sym (written xs c.deref_mut.result.now i c.args.k c.deref_mut.ensures.value)) (
      ((λ p h. omega arith), (fit_quiet x.sites c.args.a c.args.b fit, ((λ p q. q.2 i no_link h.0 h.1), ((λ p h. omega arith), tt)))),
      inr (i, h.0, h.1, refl),
      raised_cut x xs c.args.a c.args.b c.args.k i h.0 h.1,
      raised_idle x xs c.args.a c.args.b c.args.k i h.0 h.1,
    )

pub invariant_of-self-in-None : goal.invariant_of-self-in-None
invariant_of-self-in-None g c =
    let e = c.args.self.now in
    let xs = e.entries.items in
    let l : Link = record { site = c.args.a; other = c.args.b; count = c.args.k } in
    let small = new_fits (g.B.Board.shape e.below) (g.met.B.Board.sound e.below) xs c.args.a c.args.b c.args.k (omega arith) in
    let P : List Link → Type 0 = λ ys. All (λ l. l.count ≤ 500000) ys in
    let new : New xs c.args.a c.args.b = found_none xs c.args.a c.args.b (sym c.find-found.ensures ∙ c.in-None.is) in
    let open_ : length xs ≡ 32 → ⊥
    = λ full. elim c.else-is_none.branch [
      | else-is_none-via-then-is_none+else-is_full w ↦ eqb-false (length xs) 32 (sym w.is_full.ensures.value ∙ w.if-is_full.false) full
      | else-is_none-via-else-is_none w ↦ found_some xs c.args.a c.args.b c.find-found.result c.find-found.ensures (c.is_none.ensures ∙ ap not w.if-is_none.false) new
    ] in
    record {
      room = omega (arith, c.push.ensures.len, e.room, open_);
      low = subst P (sym c.push.ensures.items) (All-push (λ l. l.count ≤ 500000) xs l e.low small);
    }

pub returns-in-None-clause-made : goal.returns-in-None-clause-made
returns-in-None-clause-made g c =
    let e = c.args.self.now in
    let x = g.B.Board.shape e.below in
    let xs = e.entries.items in
    let fit = moved_fit c.args.a c.args.b x.sites _ c.count.ensures c.in_default.ensures in
    let new : New xs c.args.a c.args.b = found_none xs c.args.a c.args.b (sym c.find-found.ensures ∙ c.in-None.is) in
    let room : length xs ≡ 32 → ⊥
    = λ full. elim c.else-is_none.branch [
      | else-is_none-via-then-is_none+else-is_full w ↦ eqb-false (length xs) 32 (sym w.is_full.ensures.value ∙ w.if-is_full.false) full
      | else-is_none-via-else-is_none w ↦ found_some xs c.args.a c.args.b c.find-found.result c.find-found.ensures (c.is_none.ensures ∙ ap not w.if-is_none.false) new
    ] in
    let P : List Link → Type 0 = λ ys. Cutting x xs ys c.args.a c.args.b c.args.k (Ok tt) in
    subst P (sym c.push.ensures.items) (
      ((λ p h. omega arith), (fit_quiet x.sites c.args.a c.args.b fit, ((λ p h. room h.1), ((λ p h. omega arith), tt)))),
      inl (new, refl),
      new_cut x xs c.args.a c.args.b c.args.k fit,
      new_idle x xs c.args.a c.args.b c.args.k fit,
    )
