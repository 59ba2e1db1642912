-- A board from which links are taken is a board.
use Rattle.std.specs.Prelude.{◌≡◌, ℕ, zero, suc, ◌+◌, ◌-◌, ◌<◌, ◌≤◌, Bool, true, false, cond, ◌&&◌, List, [], ◌∷◌, ◌++◌, length, get_or, All, ◌==◌, slice_index_or, slice_set, sum_by, refl}
use Rattle.std.specs.List.{list_all}
use Rattle.std.proofs.Common.{sym, ◌∙◌, ap, arith}
use Rattle.std.proofs.Math.Path.{fun_ext}
use Rattle.std.proofs.lemmas.Bool.{cond-true, eq-eqb, and_from, and_left, or_left}
use Rattle.std.proofs.lemmas.List.Folds.{list_all-append}
use Rattle.std.proofs.lemmas.List.Sums.{sum_by_push, sum_by-set, get_or-le-sum_by, sum_by-le}
use Rattle.board.specs.Shape.{Shape, Sound, row_total}
use Rattle.board.specs.declared.link.Link.{Link}
use Rattle.board.specs.declared.link.End.{End}
use Rattle.board.specs.declared.link.End.TheVariants.{Site, Drain}
use Rattle.board.specs.Links.{no_link, joins, drains, between, to_drain, alike, fits, Fit}
use Rattle.layer.specs.Cuts.{taken_m, taken_s, lessened, all_on, cut_by, cut_at, cut_of, standing, raised}
use Rattle.board.specs.Sums.{sum_up}
use Rattle.board.specs.Walks.{m_le, s_le}
use Rattle.board.specs.Tables.{between_sym, alike_joins, alike_drains, fit_fits}

taken_sym : (xs : List Link) (u v : ℕ) → taken_m xs u v ≡ taken_m xs v u
taken_sym xs u v =
    let e : (λ (l : Link). between l u v) ≡ (λ (l : Link). between l v u) = fun_ext (λ l. between_sym l u v) in
    ap (λ (f : Link → ℕ). sum_by f xs) e

lessened_sound : (x : Shape) → Sound x → (xs : List Link) → Sound (lessened x xs)
lessened_sound x ok xs = record {
  some = ok.some;
  few = ok.few;
  symmetric = λ u v. omega (arith, ok.symmetric u v, taken_sym xs u v);
  no_loop = λ v. omega (arith, ok.no_loop v);
  off = λ u v h. omega (arith, ok.off u v h);
  off_drain = λ v h. omega (arith, ok.off_drain v h);
  total =
      omega (
        arith,
        ok.total,
        sum_up x.sites (row_total (lessened x xs)) (row_total x) (λ u h. sum_up x.sites (λ v. x.m u v - taken_m xs u v) (x.m u) (λ v l. omega arith)),
        sum_up x.sites (λ v. x.s v - taken_s xs v) x.s (λ v l. omega arith),
      );
}

-- whatever the entries are
pub cut_sound : (x : Shape) → Sound x → (xs : List Link) → Sound (cut_of x xs)
cut_sound x ok xs = go (all_on x.sites xs) where
  go : (t : Bool) → Sound (cut_at t x xs)
  go true = lessened_sound x ok xs
  go false = ok

-- an entry that is not on the board: the board below; else the entries are taken away
pub cut_idle : (x : Shape) (xs : List Link) → all_on x.sites xs ≡ false → cut_of x xs ≡ x
cut_idle x xs e = ap (λ t. cut_at t x xs) e

pub cut_takes : (x : Shape) (xs : List Link) → all_on x.sites xs ≡ true → cut_of x xs ≡ lessened x xs
cut_takes x xs e = ap (λ t. cut_at t x xs) e

pub cut_sites : (x : Shape) (xs : List Link) → (cut_of x xs).sites ≡ x.sites
cut_sites x xs = go (all_on x.sites xs) where
  go : (t : Bool) → (cut_at t x xs).sites ≡ x.sites
  go true = refl
  go false = refl

pub cut_le : (x : Shape) (xs : List Link) (u v : ℕ) → (cut_of x xs).m u v ≤ x.m u v
cut_le x xs u v = go (all_on x.sites xs) where
  go : (t : Bool) → (cut_at t x xs).m u v ≤ x.m u v
  go true = omega arith
  go false = omega arith

-- one more cut
more : (x : Shape) (xs ys : List Link) (l : Link)
    → ((u v : ℕ) → taken_m ys u v ≡ taken_m xs u v + between l u v) → ((v : ℕ) → taken_s ys v ≡ taken_s xs v + to_drain l v)
    → lessened x ys ≡ cut_by (lessened x xs) l
unfolding cut_by
more x xs ys l em es =
    let p : (λ u v. x.m u v - taken_m ys u v) ≡ (λ u v. (x.m u v - taken_m xs u v) - between l u v) = fun_ext (λ u. fun_ext (λ v. omega (arith, em u v))) in
    let q : (λ v. x.s v - taken_s ys v) ≡ (λ v. (x.s v - taken_s xs v) - to_drain l v) = fun_ext (λ v. omega (arith, es v)) in
    λ i. record { sites = x.sites; m = p i; s = q i }

-- a test that a change of one entry leaves
all_set : (p : Link → Bool) (xs : List Link) (i : ℕ) (y d : Link) → p y ≡ p (get_or xs i d) → list_all p (slice_set xs i y) ≡ list_all p xs
all_set p [] i y d e = refl
all_set p (x ∷ xs) zero y d e = ap (λ t. t && list_all p xs) e
all_set p (x ∷ xs) (suc i) y d e = ap (λ t. p x && t) (all_set p xs i y d e)

cond_plus : (t : Bool) (x y : ℕ) → cond t (x + y) 0 ≡ cond t x 0 + cond t y 0
cond_plus true x y = refl
cond_plus false x y = refl

-- the layer after a cut
module _ (x : Shape) (xs : List Link) (a : ℕ) (b : End) (k : ℕ) where
  abbrev made : Link
  made = record { site = a; other = b; count = k }

  module _ (fit : Fit x.sites a b) where
    new_on : all_on x.sites (xs ++ made ∷ []) ≡ (all_on x.sites xs && (fits x.sites a b && true))
    new_on = list_all-append (λ l. fits x.sites l.site l.other) xs (made ∷ [])

    pub new_cut : all_on x.sites xs ≡ true → cut_of x (xs ++ record { site = a; other = b; count = k } ∷ []) ≡ cut_by (cut_of x xs) (record { site = a; other = b; count = k })
    new_cut e =
        cut_takes x (xs ++ made ∷ []) (new_on ∙ and_from _ _ e (and_from _ true (fit_fits x.sites a b fit) refl))
        ∙ more x xs (xs ++ made ∷ []) made (λ u v. sum_by_push (λ l. between l u v) xs made) (λ v. sum_by_push (λ l. to_drain l v) xs made)
        ∙ ap (λ y. cut_by y made) (sym (cut_takes x xs e))

    pub new_idle : all_on x.sites xs ≡ false → cut_of x (xs ++ record { site = a; other = b; count = k } ∷ []) ≡ x
    new_idle e = cut_idle x (xs ++ made ∷ []) (new_on ∙ and_left _ _ e)

  module _ (i : ℕ) (on : i < length xs) (same : alike (get_or xs i no_link).site (get_or xs i no_link).other a b ≡ true) where
    abbrev risen : List Link
    risen = slice_set xs i (raised (slice_index_or xs i no_link) k)

    risen_on : all_on x.sites risen ≡ all_on x.sites xs
    risen_on = all_set (λ l. fits x.sites l.site l.other) xs i (raised (slice_index_or xs i no_link) k) no_link refl

    risen_m : (u v : ℕ) → taken_m risen u v ≡ taken_m xs u v + between made u v
    risen_m u v =
        let e : Link = get_or xs i no_link in
        let one : between (raised e k) u v ≡ between e u v + between made u v
        = cond_plus (joins e.site e.other u v) e.count k ∙ ap (λ t. cond (joins e.site e.other u v) e.count 0 + cond t k 0) (alike_joins e.site e.other a b same u v) in
        omega (arith, one, sum_by-set (λ l. between l u v) xs i (raised e k) no_link on)

    risen_s : (v : ℕ) → taken_s risen v ≡ taken_s xs v + to_drain made v
    risen_s v =
        let e : Link = get_or xs i no_link in
        let one : to_drain (raised e k) v ≡ to_drain e v + to_drain made v
        = cond_plus (drains e.site e.other v) e.count k ∙ ap (λ t. cond (drains e.site e.other v) e.count 0 + cond t k 0) (alike_drains e.site e.other a b same v) in
        omega (arith, one, sum_by-set (λ l. to_drain l v) xs i (raised e k) no_link on)

    pub raised_cut : all_on x.sites xs ≡ true → cut_of x (slice_set xs i (raised (slice_index_or xs i no_link) k)) ≡ cut_by (cut_of x xs) (record { site = a; other = b; count = k })
    raised_cut e =
        cut_takes x risen (risen_on ∙ e)
        ∙ more x xs risen made risen_m risen_s
        ∙ ap (λ y. cut_by y made) (sym (cut_takes x xs e))

    pub raised_idle : all_on x.sites xs ≡ false → cut_of x (slice_set xs i (raised (slice_index_or xs i no_link) k)) ≡ x
    raised_idle e = cut_idle x risen (risen_on ∙ e)

-- the links of an entry are among those taken, so what is raised stays low
pub raise_fits : (x : Shape) → Sound x → (i : ℕ) (xs : List Link) → i < length xs → (a : ℕ) (b : End) (k : ℕ) → 1 ≤ k
    → alike (get_or xs i no_link).site (get_or xs i no_link).other a b ≡ true → k ≤ standing (lessened x xs) a b → (get_or xs i no_link).count + k ≤ 500000
raise_fits x ok i xs on a (Site y) k one same fits =
    let e : Link = get_or xs i no_link in
    let own : joins a (Site y) a y ≡ true = or_left (a == a && y == y) (a == y && y == a) (and_from (a == a) (y == y) (eq-eqb a a refl) (eq-eqb y y refl)) in
    let all : between e a y ≡ e.count = cond-true (joins e.site e.other a y) e.count 0 (alike_joins e.site e.other a (Site y) same a y ∙ own) in
    omega (arith, get_or-le-sum_by (λ l. between l a y) xs i no_link on, m_le ok a y)
raise_fits x ok i xs on a Drain k one same fits =
    let e : Link = get_or xs i no_link in
    let all : to_drain e a ≡ e.count = cond-true (drains e.site e.other a) e.count 0 (alike_drains e.site e.other a Drain same a ∙ eq-eqb a a refl) in
    omega (arith, get_or-le-sum_by (λ l. to_drain l a) xs i no_link on, s_le ok a)

pub new_fits : (x : Shape) → Sound x → (xs : List Link) (a : ℕ) (b : End) (k : ℕ) → k ≤ standing (lessened x xs) a b → k ≤ 500000
new_fits x ok xs a (Site y) k fits = omega (arith, m_le ok a y)
new_fits x ok xs a Drain k fits = omega (arith, s_le ok a)

-- few low entries take few links
cond_low : (t : Bool) (x y : ℕ) → x ≤ y → cond t x 0 ≤ y
cond_low true x y h = h
cond_low false x y h = omega arith

pub taken_m_low : (xs : List Link) (u v : ℕ) → length xs ≤ 32 → All (λ l. l.count ≤ 500000) xs → taken_m xs u v ≤ 16000000
taken_m_low xs u v few low =
    omega (arith, sum_by-le (λ l. between l u v) 500000 xs (λ k d h. cond_low (joins (slice_index_or xs k d).site (slice_index_or xs k d).other u v) (slice_index_or xs k d).count 500000 (low k d h)))

pub taken_s_low : (xs : List Link) (v : ℕ) → length xs ≤ 32 → All (λ l. l.count ≤ 500000) xs → taken_s xs v ≤ 16000000
taken_s_low xs v few low =
    omega (arith, sum_by-le (λ l. to_drain l v) 500000 xs (λ k d h. cond_low (drains (slice_index_or xs k d).site (slice_index_or xs k d).other v) (slice_index_or xs k d).count 500000 (low k d h)))

-- nothing taken
pub cut_none : (x : Shape) → cut_of x [] ≡ x
cut_none x =
    let p : (λ u v. x.m u v - 0) ≡ x.m = fun_ext (λ u. fun_ext (λ v. omega arith)) in
    let q : (λ v. x.s v - 0) ≡ x.s = fun_ext (λ v. omega arith) in
    λ i. record { sites = x.sites; m = p i; s = q i }
