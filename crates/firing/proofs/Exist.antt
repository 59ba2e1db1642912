-- A list that settles any heights, from distances; and the least list, by legal firings.
use Rattle.std.proofs.Common.{◌≡◌, ℕ, zero, suc, ◌+◌, ◌-◌, ◌*◌, ◌<◌, ◌≤◌, cond, eqb, refl, inl, inr, mul-le-mul_right, mul-le-mul_left, arith}
use native.Mathlib.Decide.{ℕ_discrete, dec_le}
use Rattle.std.proofs.lemmas.Bool.{eq-eqb, ne_eqb}
use Rattle.board.specs.Shape.{Shape, Sound, deg, sum_below}
use Rattle.board.specs.Sums.{sum_up, sum_term}
use Rattle.firing.specs.Firing.{fires_from, CanFire, Still, Fires, Counts, Run, begin, fire}
use Rattle.firing.specs.Settling.{inflow, Settles, Same, Least, Settled}
use Rattle.firing.specs.Reaching.{AllReach, AllLinked}
use Rattle.firing.proofs.Sums.{sum_scale, sum_jump}
use Rattle.firing.proofs.Degrees.{deg_in, deg_fires_from}
use Rattle.firing.proofs.Choosing.{somewhere}
use Rattle.firing.proofs.Reach.{Layers, dist, distances, reach_linked}
use Rattle.firing.proofs.Action as action
use Rattle.firing.proofs.Runs.{counts_total, run_same, run_then, run_more}

-- what one layer fires more often than the one before it, j layers from the last: D times what the next one adds, and K
abbrev pub gap : ℕ → ℕ → ℕ → ℕ
gap D K zero = K
gap D K (suc j) = D * gap D K j + K

-- how often the layer d fires, of N
abbrev pub pile_up : ℕ → ℕ → ℕ → ℕ → ℕ
pile_up D K N d = sum_below d (λ k. gap D K (N - k))

gap_step : (D K N k : ℕ) → k < N → gap D K (N - k) ≡ D * gap D K (N - suc k) + K
gap_step D K N k l = let e : N - k ≡ suc (N - suc k) = omega arith in rw e refl

-- a layer below fires no more
pile_up_le : (D K N d e : ℕ) → d ≤ e → pile_up D K N d ≤ pile_up D K N e
unfolding sum_below
pile_up_le D K N d zero l = let z : d ≡ 0 = omega arith in rw z (omega arith)
pile_up_le D K N d (suc e) l =
    elim (ℕ_discrete d (suc e)) [
      | yes p ↦ rw p (omega arith)
      | no q ↦ omega (arith, pile_up_le D K N d e (omega arith))
    ]

-- a product where there is a factor at all
mul_where : (m x y : ℕ) → (1 ≤ m → x ≤ y) → m * x ≤ m * y
mul_where zero x y p = omega arith
mul_where (suc m) x y p = mul-le-mul_left (suc m) (p (omega arith))

-- a link that brings A less than W
lower : (m x W A B : ℕ) → 1 ≤ m → x + A ≤ W → m * x + A ≤ m * (W + B)
lower (suc m) x W A B one le = omega (arith, mul-le-mul_left m (let q : x ≤ W = omega arith in q), mul-le-mul_left (suc m) (let q : W ≤ W + B = omega arith in q))
lower zero x W A B one le = absurd (omega arith)

-- from the drain, or from a site one nearer, each site gains A
enough_out : (s M W A B D K I : ℕ) → 1 ≤ s → A ≡ D * B + K → M ≤ D → A ≤ W → I ≤ M * (W + B) → I + K ≤ (s + M) * W
enough_out s M W A B D K I one e le AW IM = omega (arith, mul-le-mul_right B le, mul-le-mul_right W one)

enough_in : (s M W A B D K I : ℕ) → A ≡ D * B + K → M ≤ D → I + A ≤ M * (W + B) → I + K ≤ (s + M) * W
enough_in s M W A B D K I e le IM = omega (arith, mul-le-mul_right B le)

settle_from : (c I t d W K : ℕ) → c ≤ K → I + K ≤ d * W → 1 ≤ t → c + I < t + d * W
settle_from c I t d W K cK le one = omega arith

-- D is at least each degree, K each height, and d the distances, of at most N
module _ (b : Shape) (sound : Sound b) (d : ℕ → ℕ) (N : ℕ) (layers : Layers b d N) (D K : ℕ) (deg_le : (v : ℕ) → v < b.sites → deg b v ≤ D) where
  -- how often each site fires
  by_layer : ℕ → ℕ
  by_layer v = pile_up D K N (d v)

  module _ (v : ℕ) (l : v < b.sites) (k : ℕ) (e : d v ≡ suc k) where
    M : ℕ
    M = sum_below b.sites (λ u. b.m u v)

    A : ℕ
    A = gap D K (N - k)

    B : ℕ
    B = gap D K (N - suc k)

    M_is : deg b v ≡ b.s v + M
    unfolding M
    M_is = deg_in b sound v

    AB : A ≡ D * B + K
    unfolding A B
    AB = gap_step D K N k (omega (arith, layers.bounded v l))

    here : by_layer v ≡ pile_up D K N k + A
    unfolding by_layer A sum_below
    here = rw e refl

    below : (u : ℕ) → d u ≡ k → by_layer u ≡ pile_up D K N k
    unfolding by_layer
    below u p = rw p refl

    -- no neighbour fires more often than v by more than B
    near : (u : ℕ) → u < b.sites → 1 ≤ b.m u v → by_layer u ≤ by_layer v + B
    unfolding by_layer B sum_below
    near u l' m = let p : d u ≤ suc (suc k) = omega (arith, layers.close u v l' l m) in rw e (pile_up_le D K N (d u) (suc (suc k)) p)

    each : (u : ℕ) → u < b.sites → b.m u v * by_layer u ≤ b.m u v * (by_layer v + B)
    each u l' = mul_where (b.m u v) (by_layer u) (by_layer v + B) (near u l')

    all : sum_below b.sites (λ u. b.m u v * (by_layer v + B)) ≡ M * (by_layer v + B)
    unfolding M
    all = sum_scale b.sites (λ u. b.m u v) (by_layer v + B)

    M_le : M ≤ D
    M_le = omega (arith, M_is, deg_le v l)

    enough : inflow b by_layer v + K ≤ deg b v * by_layer v
    enough =
        elim (ℕ_discrete k 0) [
          | yes z ↦
              rw M_is (enough_out (b.s v) M (by_layer v) A B D K (inflow b by_layer v) (layers.edge v l (omega arith)) AB M_le (omega (arith, here))
              (rw (← all) (sum_up b.sites _ _ each)))
          | no q ↦
              let f = layers.down v l (omega arith) in
              let m : b.m f.0 v ≡ b.m v f.0 = sound.symmetric f.0 v in
              let wu = below f.0 (omega (arith, f.3)) in
              rw M_is (enough_in (b.s v) M (by_layer v) A B D K (inflow b by_layer v) AB M_le
              (rw (← all) (sum_jump b.sites (λ u. b.m u v * by_layer u) (λ u. b.m u v * (by_layer v + B)) f.0 A f.1
              (lower (b.m f.0 v) (by_layer f.0) (by_layer v) A B (omega (arith, f.2)) (omega (arith, here))) each)))
        ]

  pub layers_settle : AllLinked b → (c : ℕ → ℕ) → ((v : ℕ) → v < b.sites → c v ≤ K) → Settles b c (λ v. pile_up D K N (d v))
  unfolding by_layer
  layers_settle linked c c-le v l =
      settle_from (c v) (inflow b (λ u. pile_up D K N (d u)) v) (fires_from b v) (deg b v) (pile_up D K N (d v)) K (c-le v l) (enough v l (d v - 1) (omega (arith, layers.from_one v l))) (omega (arith, linked v l, deg_fires_from b v))

pub some_settles : (b : Shape) → Sound b → AllReach b → (c : ℕ → ℕ) → (w : ℕ → ℕ) × Settles b c w
some_settles b sound all_reach c =
    let D : ℕ = sum_below b.sites (λ v. deg b v) in
    let K : ℕ = sum_below b.sites c in (
      λ v. pile_up D K b.sites (dist b v),
      layers_settle b sound (dist b) b.sites (distances b all_reach) D K (λ v l. sum_term b.sites v (deg b) l) (reach_linked b all_reach) c (λ v l. sum_term b.sites v c l),
    )

-- heights and counts after a firing of x
abbrev pub fired : Shape → ℕ → (ℕ → ℕ) → ℕ → ℕ
fired b x h u = cond (eqb u x) (h x - deg b x) (h u + b.m x u)

abbrev pub counted : ℕ → (ℕ → ℕ) → ℕ → ℕ
counted x w u = cond (eqb u x) (w x + 1) (w u)

module _ (b : Shape) where
  pub fires : (x : ℕ) (h : ℕ → ℕ) → x < b.sites → CanFire b h x → Fires b x h (fired b x h)
  fires x h l can =
      record {
        on = l;
        can = can;
        gives = rw (eq-eqb x x refl) (omega (arith, can.1, deg_fires_from b x));
        gets = λ u l' ne. rw (ne_eqb u x ne) refl;
      }

  pub counts : (x : ℕ) (w : ℕ → ℕ) → Counts b x w (counted x w)
  counts x w = record { one_more = rw (eq-eqb x x refl) refl; others = λ u l' ne. rw (ne_eqb u x ne) refl }

  pub can_fire_dec : (h : ℕ → ℕ) (v : ℕ) → Dec (CanFire b h v)
  can_fire_dec h v = go (dec_le 1 (deg b v)) (dec_le (fires_from b v) (h v))
    where
      go : Dec (1 ≤ deg b v) → Dec (fires_from b v ≤ h v) → Dec (CanFire b h v)
      go (yes p) (yes q) = yes (p, q)
      go (yes p) (no q) = no (λ r. q r.1)
      go (no p) d = no (λ r. p r.0)

  -- a legal run from c to still heights
  abbrev pub Ends : (ℕ → ℕ) → Type 0
  Ends c = (h : ℕ → ℕ) × ((w : ℕ → ℕ) × Run b c h w × Still b h)

  module _ (sound : Sound b) (c w₀ : ℕ → ℕ) (settles : Settles b c w₀) where
    -- legal firings, for as long as the fuel lasts, which a settling list bounds
    run_out : (k : ℕ) (h w : ℕ → ℕ) → Run b c h w → sum_below b.sites w₀ < sum_below b.sites w + k → Ends c
    run_out zero h w r fuel = absurd (omega (arith, sum_up b.sites w w₀ (action.least_action b sound c w₀ settles r)))
    run_out (suc k) h w r fuel =
        elim (somewhere (CanFire b h) (can_fire_dec h) b.sites) [
          | inl f ↦
              run_out k (fired b f.0 h) (counted f.0 w)
              (fire f.0 r (fires f.0 h f.1 f.2) (counts f.0 w)) (omega (arith, counts_total b w (counted f.0 w) f.0 f.1 (counts f.0 w)))
          | inr never ↦ (h, (w, r, never))
        ]

    -- from any settling list, legal firings come to an end
    pub ends : Ends c
    ends = run_out (sum_below b.sites w₀ + 1) c (λ v. 0) (begin (λ v l. refl) (λ v l. refl)) (omega arith)

pub least_exists : (b : Shape) → Sound b → AllReach b → (c : ℕ → ℕ) → (w : ℕ → ℕ) × Least b c w × ((h : ℕ → ℕ) × Run b c h w × Still b h)
least_exists b sound all_reach c =
    let f = some_settles b sound all_reach c in
    let e = ends b sound c f.0 f.1 in
    (e.1.0, action.run_least b sound (reach_linked b all_reach) c e.0 e.1.0 e.1.1 e.1.2, (e.0, e.1.1, e.1.2))

pub settled_same : (b : Shape) (c h h' : ℕ → ℕ) → Settled b c h → Settled b c h' → Same b h h'
settled_same b c h h' one two =
    action.follows_once b c h one.0 h' two.0 one.2 two.2 (action.least_once b c one.0 two.0 one.1 two.1)

pub settled_still : (b : Shape) (c h : ℕ → ℕ) → Settled b c h → Still b h
settled_still b c h s = action.settles_still b c h s.0 s.2 s.1.settles

-- a legal run that ends still leads to the settled heights
pub run_settled : (b : Shape) → Sound b → AllLinked b → (c h w : ℕ → ℕ) → Run b c h w → Still b h → Settled b c h
run_settled b sound linked c h w r still = (w, action.run_least b sound linked c h w r still, action.run_follows b sound c r)

pub settled_once : (b : Shape) → Sound b → AllReach b → (c : ℕ → ℕ) → (h : ℕ → ℕ) × Settled b c h × Still b h × ((h' : ℕ → ℕ) → Settled b c h' → Same b h h')
settled_once b sound all_reach c =
    let e = least_exists b sound all_reach c in
    let s : Settled b c e.2.0 = (e.0, e.1, action.run_follows b sound c e.2.1) in
    (e.2.0, s, e.2.2, λ h' s'. settled_same b c e.2.0 h' s s')

-- the same start, settled, is the same
pub settled_from : (b : Shape) (c c' h : ℕ → ℕ) → Same b c c' → Settled b c h → Settled b c' h
settled_from b c c' h same s = (
  s.0,
  record {
    settles = action.settles_fewer b c' c s.0 (λ v l. omega (arith, same v l)) s.1.settles;
    least = λ w settles. s.1.least w (action.settles_fewer b c c' w (λ v l. omega (arith, same v l)) settles);
  },
  λ v l. omega (arith, s.2 v l, same v l),
)

-- a legal run leads to settled heights
pub settled_run : (b : Shape) → Sound b → AllReach b → (c h : ℕ → ℕ) → Settled b c h → (w : ℕ → ℕ) × Run b c h w × Still b h
settled_run b sound all_reach c h s =
    let e = least_exists b sound all_reach c in
    let same = action.least_once b c s.0 e.0 s.1 e.1 in
    let heights = action.follows_once b c h s.0 e.2.0 e.0 s.2 (action.run_follows b sound c e.2.1) same in
    (e.0, run_same b c h e.0 e.2.1 heights (λ v l. refl), settled_still b c h s)

-- settling in two steps: grains that are added to settled heights might as well have been there from the start
pub settled_then : (b : Shape) → Sound b → AllReach b → (c d h e : ℕ → ℕ) → Settled b c h → Settled b (λ v. h v + d v) e → Settled b (λ v. c v + d v) e
settled_then b sound all_reach c d h e one two =
    let first = settled_run b sound all_reach c h one in
    let second = settled_run b sound all_reach (λ v. h v + d v) e two in
    let counts : ℕ → ℕ = λ v. first.0 v + second.0 v in
    run_settled b sound (reach_linked b all_reach) (λ v. c v + d v) e counts
    (run_then b (λ v. c v + d v) (run_more b c d first.1) second.1 counts (λ v l. refl)) second.2
