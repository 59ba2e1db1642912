-- What a walk over `next` has added to the heights.
use Rattle.std.proofs.Common.{◌≡◌, ℕ, ◌+◌, ◌*◌, ◌<◌, ◌≤◌, Bool, true, false, not, List, Option, Some, None, length, is_some, set, sym, refl, ap, ◌∙◌, inl, inr, mul-le-mul_right, zero-mul, mul-one, arith, get_or-set_other, get_or-set_same}
use Rattle.std.proofs.lemmas.Bool.{cases_lt, cases_eq, cases_order, true≢false}
use Rattle.board.specs.Shape.{Shape, Sound, Least, deg}
use Rattle.std.proofs.lemmas.List.{get_or_past}
use Rattle.board.specs.Walks.{linked_on, m_deg}
use Rattle.board.specs.Sums.{sum_term}
use Rattle.firing.specs.Firing.{CanFire, Fires}
use Rattle.firing.specs.Firing.{at}
use Rattle.settling.specs.Firings.{grains, Weighs, FiresTimes, LightNear}

-- the heights xs after v has sent its grains, k times its links, to each site below j
pub record Spread (b : Shape) (v k j : ℕ) (xs ys : List ℕ) : Type 0 where
  pub on : j ≤ b.sites
  pub below : (u : ℕ) → u < j → at ys u ≡ at xs u + b.m v u * k
  pub above : (u : ℕ) → j ≤ u → at ys u ≡ at xs u

pub spread_none : (b : Shape) (v k : ℕ) (xs : List ℕ) → Spread b v k 0 xs xs
spread_none b v k xs = record { on = omega arith; below = λ u l. absurd (omega arith); above = λ u l. refl }

none_sent : (m k : ℕ) → m ≡ 0 → m * k ≡ 0
none_sent m k e = ap (λ x. x * k) e ∙ zero-mul k

module _ {b : Shape} (ok : Sound b) (v k : ℕ) where
  pub spread_more : (j u y : ℕ) (xs ys : List ℕ) → length ys ≡ b.sites → Spread b v k j xs ys → Least (b.m v) j u
      → y ≡ at ys u + b.m v u * k → Spread b v k (u + 1) xs (set ys u y)
  spread_more j u y xs ys size sp least e =
      let on : u < b.sites = linked_on ok v u least.linked in
      let inside : u < length ys = omega arith in
      record {
        on = omega arith;
        below = λ i l. elim (cases_order i u) [
          | inl same ↦ ap (at (set ys u y)) same ∙ get_or-set_same ys u y 0 inside ∙ e ∙ ap (λ z. z + b.m v u * k) (sp.above u least.from) ∙ ap (λ i. at xs i + b.m v i * k) (sym same)
          | inr (inl less) ↦ get_or-set_other ys u i y 0 (omega arith) ∙ elim (cases_lt i j) [
            | inl before ↦ sp.below i before
            | inr from ↦ omega (arith, sp.above i from, none_sent (b.m v i) k (least.before i from less))
          ]
          | inr (inr more) ↦ absurd (omega arith)
        ];
        above = λ i l. get_or-set_other ys u i y 0 (omega arith) ∙ sp.above i (omega (arith, least.from));
      }

  -- what v sends to one site is no more than what it gives
  pub sent_le : (u : ℕ) → b.m v u * k ≤ deg b v * k
  sent_le u = mul-le-mul_right k (m_deg ok v u)

  pub add_fits : (j u y : ℕ) (xs ys : List ℕ) → v < length xs → y ≤ at xs v → deg b v * k ≤ at xs v
      → Spread b v k j (set xs v y) ys → Least (b.m v) j u → LightNear b xs v true → (at ys u ≤ 1000000) × (b.m v u * k ≤ 1000000)
  add_fits j u y xs ys on e has sp least low =
      let le : at (set xs v y) u ≤ 1000000 = elim (cases_eq u v) [
        | inl same ↦ omega (arith, ap (at (set xs v y)) same, get_or-set_same xs v y 0 on, low v (inl refl))
        | inr apart ↦ omega (arith, get_or-set_other xs v u y 0 apart, low u (inr least.linked))
      ] in
      (omega (arith, sp.above u least.from), omega (arith, sent_le u, low v (inl refl)))

  -- all firings: what v gives is taken, the walk is done
  pub fired_all : (j y : ℕ) (xs ys : List ℕ) → v < length xs → y + deg b v * k ≡ at xs v → Spread b v k j (set xs v y) ys
      → ((i : ℕ) → j ≤ i → b.m v i ≡ 0) → FiresTimes b v k (at xs) (at ys)
  fired_all j y xs ys on e sp none =
      let all : (u : ℕ) → at ys u ≡ at (set xs v y) u + b.m v u * k = λ u. elim (cases_lt u j) [
        | inl before ↦ sp.below u before
        | inr from ↦ omega (arith, sp.above u from, none_sent (b.m v u) k (none u from))
      ] in
      record {
        gives = omega (arith, all v, get_or-set_same xs v y 0 on, none_sent (b.m v v) k (ok.no_loop v));
        gets = λ u l ne. all u ∙ ap (λ z. z + b.m v u * k) (get_or-set_other xs v u y 0 ne);
      }

  -- one firing
  pub fires_once : (h h' : ℕ → ℕ) → k ≡ 1 → v < b.sites → CanFire b h v → FiresTimes b v k h h' → Fires b v h h'
  fires_once h h' one on can f = record {
    on = on;
    can = can;
    gives = omega (arith, f.gives, ap (λ i. deg b v * i) one, mul-one (deg b v));
    gets = λ u l ne. omega (arith, f.gets u l ne, ap (λ i. b.m v u * i) one, mul-one (b.m v u));
  }

-- no height is above all grains
pub low_all : (xs : List ℕ) (limit : ℕ) → grains xs ≤ limit → (u : ℕ) → at xs u ≤ limit
low_all xs limit le u = elim (cases_lt u (length xs)) [
  | inl l ↦ omega (arith, sum_term (length xs) u (at xs) l)
  | inr l ↦ omega (arith, get_or_past xs u 0 l)
]

-- what was weighed is low
pub low_weighed : (xs : List ℕ) (limit : ℕ) (o : Option ℕ) (r : Bool) → is_some o ≡ not r → r ≡ false → Weighs xs limit o → (u : ℕ) → at xs u ≤ limit
low_weighed xs limit (Some s) r e f w u = low_all xs limit (omega (arith, w.0, w.1)) u
low_weighed xs limit None r e f w u = absurd (true≢false (sym (e ∙ ap not f)))
