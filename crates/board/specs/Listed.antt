-- A link list is a board.
use Rattle.std.specs.Prelude.{◌≡◌, ℕ, ◌+◌, ◌<◌, ◌≤◌, Bool, true, false, cond, List, [], ◌∷◌, ◌++◌, length, Some, None, Option, ◌==◌, ◌≢◌, nat_lt, slice_index_or, slice_set, refl}
use Rattle.std.proofs.Common.{sym, ◌∙◌, ap, inl, inr, arith}
use Rattle.std.proofs.Math.Path.{fun_ext}
use Rattle.std.proofs.lemmas.Bool.{cond-true, cond-false, eq-eqb, ne_eqb, ltb-true, ltb-false}
use Rattle.board.specs.Shape.{Sound, Least, NextIs, all_links}
use Rattle.board.specs.Walks.{m_le, s_le}
use Rattle.board.specs.declared.link.Link.{Link}
use Rattle.board.specs.Links.{no_link, between, to_drain, far, Fit, FitsAll, m_of, s_of, weights}
use Rattle.board.specs.Tables.{m_of_sym, m_of_not, s_of_off, table_total, grow_m, grow_s, m_of_more, m_of_up, s_of_more, s_of_up, m_of_push, s_of_push, m_of_none, s_of_none, between_far}
use Rattle.board.specs.Lists.{listed, linked, nearer}
use Rattle.board.specs.Adding.{shape_of}
use Rattle.board.specs.declared.list.LinkList.{LinkList}

pub listed_sound : (n k : ℕ) (xs : List Link) → 1 ≤ n → n ≤ 4096 → FitsAll xs k n → weights xs k ≤ 500000 → Sound (listed n k xs)
listed_sound n k xs some few fit limit = record {
  some = some;
  few = few;
  symmetric = m_of_sym xs k;
  no_loop = λ v. m_of_not xs k n fit v v (inl refl);
  off = λ u v h. m_of_not xs k n fit u v (inr h);
  off_drain = λ v h. s_of_off xs k n fit v h;
  total = omega (arith, table_total xs k n fit);
}

-- the board after one more record
pub listed_grown : (n k : ℕ) (xs : List Link) (l : Link) → k < length xs → listed n (k + 1) (slice_set xs k l) ≡ linked (listed n k xs) l
unfolding linked
listed_grown n k xs l h =
    let p : m_of (slice_set xs k l) (k + 1) ≡ (λ u v. m_of xs k u v + between l u v) = fun_ext (λ u. fun_ext (λ v. grow_m xs k l h u v)) in
    let q : s_of (slice_set xs k l) (k + 1) ≡ (λ v. s_of xs k v + to_drain l v) = fun_ext (λ v. grow_s xs k l h v) in
    λ i. record { sites = n; m = p i; s = q i }

-- the same, of a list that holds no spare places
pub listed_pushed : (n : ℕ) (xs : List Link) (l : Link) → listed n (length (xs ++ l ∷ [])) (xs ++ l ∷ []) ≡ linked (listed n (length xs) xs) l
unfolding linked
listed_pushed n xs l =
    let p : m_of (xs ++ l ∷ []) (length (xs ++ l ∷ [])) ≡ (λ u v. m_of xs (length xs) u v + between l u v) = fun_ext (λ u. fun_ext (λ v. m_of_push xs l u v)) in
    let q : s_of (xs ++ l ∷ []) (length (xs ++ l ∷ [])) ≡ (λ v. s_of xs (length xs) v + to_drain l v) = fun_ext (λ v. s_of_push xs l v) in
    λ i. record { sites = n; m = p i; s = q i }

-- the sum over some records is small
pub links_fit : (n k i : ℕ) (xs : List Link) → Sound (listed n k xs) → i < k → (u v : ℕ) → m_of xs i u v + between (slice_index_or xs i no_link) u v ≤ 500000
links_fit n k i xs ok h u v = omega (arith, m_of_more xs i u v, m_of_up xs (i + 1) k u v (omega arith), m_le ok u v)

pub drain_fit : (n k i : ℕ) (xs : List Link) → Sound (listed n k xs) → i < k → (v : ℕ) → s_of xs i v + to_drain (slice_index_or xs i no_link) v ≤ 500000
drain_fit n k i xs ok h v = omega (arith, s_of_more xs i v, s_of_up xs (i + 1) k v (omega arith), s_le ok v)

-- the least far end among some records, record by record
pub next_none : (n : ℕ) (xs : List Link) (v j : ℕ) → NextIs (listed n 0 xs) v j None
next_none n xs v j k h = m_of_none xs v k

module _ (n i : ℕ) (xs : List Link) (v j : ℕ) where
  step_none : (c : ℕ) (best : Option ℕ) → ((k : ℕ) → j ≤ k → m_of xs (i + 1) v k ≡ m_of xs i v k) → NextIs (listed n i xs) v j best → NextIs (listed n (i + 1) xs) v j best
  step_none c None e none = λ k h. e k h ∙ none k h
  step_none c (Some x) e least = record {
    from = least.from;
    linked = omega (arith, e x least.from, least.linked);
    before = λ k h less. e k h ∙ least.before k h less;
  }

  module _ (c w : ℕ) (one : 1 ≤ c) (e : (k : ℕ) → m_of xs (i + 1) v k ≡ m_of xs i v k + cond (w == k) c 0) where
    here : m_of xs (i + 1) v w ≡ m_of xs i v w + c
    here = omega (arith, e w, cond-true (w == w) c 0 (eq-eqb w w refl))

    apart : (k : ℕ) → (w ≢ k) → m_of xs (i + 1) v k ≡ m_of xs i v k
    apart k ne = omega (arith, e k, cond-false (w == k) c 0 (ne_eqb w k ne))

    takes : j ≤ w → ((k : ℕ) → j ≤ k → k < w → m_of xs i v k ≡ 0) → Least ((listed n (i + 1) xs).m v) j w
    takes h none = record {
      from = h;
      linked = omega (arith, here);
      before = λ k from less. apart k (λ p. omega arith) ∙ none k from less;
    }

    step_some : (best : Option ℕ) → NextIs (listed n i xs) v j best → NextIs (listed n (i + 1) xs) v j (nearer j best (Some w))
    step_some None none = go (nat_lt w j) refl where
      go : (t : Bool) → nat_lt w j ≡ t → NextIs (listed n (i + 1) xs) v j (cond t None (Some w))
      go true p = λ k h. apart k (λ q. omega (arith, ltb-true w j p)) ∙ none k h
      go false p = takes (ltb-false w j p) (λ k from less. none k from)
    step_some (Some x) least = go (nat_lt w j) (nat_lt w x) refl refl where
      go : (t u : Bool) → nat_lt w j ≡ t → nat_lt w x ≡ u → NextIs (listed n (i + 1) xs) v j (cond t (Some x) (cond u (Some w) (Some x)))
      go true u p q = step_none c (Some x) (λ k h. apart k (λ r. omega (arith, ltb-true w j p))) least
      go false true p q = takes (ltb-false w j p) (λ k from less. least.before k from (omega (arith, ltb-true w x q)))
      go false false p q = record {
        from = least.from;
        linked = omega (arith, e x, least.linked);
        before = λ k from less. apart k (λ r. omega (arith, ltb-false w x q)) ∙ least.before k from less;
      }

  pub next_more : (l : Link) → l ≡ slice_index_or xs i no_link → Fit n l.site l.other → 1 ≤ l.count → (best : Option ℕ) → NextIs (listed n i xs) v j best
      → NextIs (listed n (i + 1) xs) v j (nearer j best (far l.site l.other v))
  next_more l is fit one best next = go (far l.site l.other v) refl where
    grown : (k : ℕ) → m_of xs (i + 1) v k ≡ m_of xs i v k + elim (far l.site l.other v) [ Some w ↦ cond (w == k) l.count 0 | None ↦ 0 ]
    grown k = m_of_more xs i v k ∙ ap (λ y. m_of xs i v k + y) (ap (λ (x : Link). between x v k) (sym is) ∙ between_far n l fit v k)

    none_of : (o : Option ℕ) → nearer j o None ≡ o
    none_of None = refl
    none_of (Some x) = refl

    go : (f : Option ℕ) → far l.site l.other v ≡ f → NextIs (listed n (i + 1) xs) v j (nearer j best f)
    go None p = let at : nearer j best None ≡ best = none_of best in rw at (step_none 0 best (λ k h. omega (arith, grown k, ap {B = ℕ} (λ (o : Option ℕ). elim o [ Some w ↦ cond (w == k) l.count 0 | None ↦ 0 ]) p)) next)
    go (Some w) p = step_some l.count w one (λ k. grown k ∙ ap {B = ℕ} (λ (o : Option ℕ). m_of xs i v k + elim o [ Some w ↦ cond (w == k) l.count 0 | None ↦ 0 ]) p) best next

pub list_sound : (b : LinkList) → Sound (shape_of b)
list_sound b = listed_sound b.sites (length b.records.items) b.records.items b.some b.few b.fit (omega (arith, b.adds, b.limit))

pub list_total : (b : LinkList) → all_links (shape_of b) ≡ b.total
list_total b = table_total b.records.items (length b.records.items) b.sites b.fit ∙ sym b.adds

pub listed_none : (n : ℕ) (xs : List Link) → listed n 0 xs ≡ record { sites = n; m = λ u v. 0; s = λ v. 0 }
listed_none n xs =
    let p : m_of xs 0 ≡ (λ u v. 0) = fun_ext (λ u. fun_ext (λ v. m_of_none xs u v)) in
    let q : s_of xs 0 ≡ (λ v. 0) = fun_ext (λ v. s_of_none xs v) in
    λ i. record { sites = n; m = p i; s = q i }
