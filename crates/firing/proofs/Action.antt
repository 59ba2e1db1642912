-- What a legal run keeps, and what settling lists bound.
use Rattle.std.proofs.Common.{◌≡◌, ℕ, ◌+◌, ◌*◌, ◌<◌, ◌≤◌, min, ◌≢◌, ap, ◌∙◌, mul-le-mul_left, mul-zero, arith}
use native.Mathlib.Nat.{min-le_left, min-le_right, min-eq_left, min-eq_right}
use native.Mathlib.Decide.{ℕ_discrete, dec_le}
use Rattle.board.specs.Shape.{Shape, Sound, deg, row_total, sum_below}
use Rattle.board.specs.Sums.{sum_same, sum_none, sum_up, sum_plus, sum_swap}
use Rattle.firing.specs.Firing.{fires_from, Still, Fires, Counts, Run, begin, fire}
use Rattle.firing.specs.Settling.{inflow, drained, Settles, Follows, AtMost, Same, Least}
use Rattle.firing.specs.Reaching.{AllLinked}
use Rattle.firing.proofs.Sums.{sum_scale, sum_point}
use Rattle.firing.proofs.Degrees.{deg_is}

-- the site that fires, in numbers
at_fired : (h h' d w c i i' m : ℕ) → h' + d ≡ h → m ≡ 0 → h + d * w ≡ c + i → i' ≡ i + m → h' + d * (w + 1) ≡ c + i'
at_fired h h' d w c i i' m e z ih more = omega arith

too_high : (h t d w c i i' : ℕ) → t ≤ h → h + d * w ≡ c + i → i ≤ i' → c + i' < t + d * w → ⊥
too_high h t d w c i i' a e le lt = omega arith

below : (h t d w c i : ℕ) → h + d * w ≡ c + i → h < t → c + i < t + d * w
below h t d w c i e lt = omega arith

module _ (b : Shape) where
  -- more firings bring more grains
  pub inflow_le : (w w' : ℕ → ℕ) → AtMost b w w' → (v : ℕ) → inflow b w v ≤ inflow b w' v
  inflow_le w w' le v = sum_up b.sites _ _ (λ u l. mul-le-mul_left (b.m u v) (le u l))

  pub inflow_same : (w w' : ℕ → ℕ) → Same b w w' → (v : ℕ) → inflow b w v ≡ inflow b w' v
  inflow_same w w' same v = sum_same b.sites _ _ (λ u l. ap (λ k. b.m u v * k) (same u l))

  pub inflow_none : (w : ℕ → ℕ) → ((v : ℕ) → v < b.sites → w v ≡ 0) → (v : ℕ) → inflow b w v ≡ 0
  inflow_none w none v = sum_none b.sites (λ u. b.m u v * w u) (λ u l. rw (none u l, mul-zero))

  -- one more firing of x
  pub inflow_more : (x : ℕ) (w w' : ℕ → ℕ) → x < b.sites → Counts b x w w' → (v : ℕ) → inflow b w' v ≡ inflow b w v + b.m x v
  inflow_more x w w' l more v =
      sum_point b.sites (λ u. b.m u v * w u) (λ u. b.m u v * w' u) x (b.m x v) l
      (rw more.one_more (omega arith)) (λ u l' ne. ap (λ k. b.m u v * k) (more.others u l' ne))

  -- a firing keeps what heights and counts have to do with each other
  pub follows_step : Sound b → (c : ℕ → ℕ) {h h' w w' : ℕ → ℕ} (x : ℕ) → Follows b c w h → Fires b x h h' → Counts b x w w' → Follows b c w' h'
  follows_step sound c {h} {h'} {w} {w'} x ih f k v l = elim (ℕ_discrete v x) [ yes p ↦ rw p here | no q ↦ there q ]
    where
      here : h' x + deg b x * w' x ≡ c x + inflow b w' x
      here =
          rw k.one_more
          (at_fired (h x) (h' x) (deg b x) (w x) (c x) (inflow b w x) (inflow b w' x) (b.m x x) f.gives
          (sound.no_loop x) (ih x f.on) (inflow_more x w w' f.on k x))

      there : v ≢ x → h' v + deg b v * w' v ≡ c v + inflow b w' v
      there q = rw (f.gets v l q, k.others v l q) (omega (arith, ih v l, inflow_more x w w' f.on k v))

  -- a firing stays below a settling list
  pub least_step : (c w'' : ℕ → ℕ) → Settles b c w'' → {h h' w w' : ℕ → ℕ} (x : ℕ) → Follows b c w h → AtMost b w w'' → Fires b x h h' → Counts b x w w' → AtMost b w' w''
  least_step c w'' settles {h} {h'} {w} {w'} x follows le f k v l = elim (ℕ_discrete v x) [ yes p ↦ rw p here | no q ↦ omega (arith, le v l, k.others v l q) ]
    where
      full : w'' x ≡ w x → ⊥
      full e =
          too_high (h x) (fires_from b x) (deg b x) (w x) (c x) (inflow b w x) (inflow b w'' x) f.can.1 (follows x f.on) (inflow_le w w'' le x)
          (rw e at (settles x f.on))

      here : w' x ≤ w'' x
      here = elim (ℕ_discrete (w'' x) (w x)) [ yes e ↦ absurd (full e) | no q ↦ omega (arith, le x f.on, k.one_more) ]

  module _ (sound : Sound b) (c : ℕ → ℕ) where
    pub run_follows : {h w : ℕ → ℕ} → Run b c h w → Follows b c w h
    run_follows (begin {h} {w} at none) v l = rw (at v l, none v l) (omega (arith, inflow_none w none v, mul-zero (deg b v)))
    run_follows (fire x r f k) v l = follows_step sound c x (run_follows r) f k v l

    -- no run fires a site more often than a settling list does
    pub least_action : (w'' : ℕ → ℕ) → Settles b c w'' → {h w : ℕ → ℕ} → Run b c h w → AtMost b w w''
    least_action w'' settles (begin {h} {w} at none) v l = omega (arith, none v l)
    least_action w'' settles (fire x r f k) v l = least_step c w'' settles x (run_follows r) (least_action w'' settles r) f k v l

  -- what the neighbours get in all is what the sites give to neighbours in all
  pub inflow_total : (w : ℕ → ℕ) → sum_below b.sites (inflow b w) ≡ sum_below b.sites (λ u. row_total b u * w u)
  inflow_total w =
      sum_swap b.sites b.sites (λ v u. b.m u v * w u)
      ∙ sum_same b.sites _ _ (λ u l. sum_scale b.sites (b.m u) (w u))

  -- grains are neither made nor lost
  pub follows_conserves : (c h w : ℕ → ℕ) → Follows b c w h → sum_below b.sites h + drained b w ≡ sum_below b.sites c
  follows_conserves c h w follows =
      let both : sum_below b.sites (λ v. h v + deg b v * w v) ≡ sum_below b.sites (λ v. c v + inflow b w v) = sum_same b.sites _ _ follows in
      let given : sum_below b.sites (λ v. deg b v * w v) ≡ sum_below b.sites (λ v. b.s v * w v + row_total b v * w v) =
      sum_same b.sites _ _ (λ v l. rw (deg_is b v) (omega arith)) in
      omega (
        arith,
        sum_plus b.sites h (λ v. deg b v * w v),
        sum_plus b.sites c (inflow b w),
        sum_plus b.sites (λ v. b.s v * w v) (λ v. row_total b v * w v),
        inflow_total w,
      )

  -- what settles more grains settles fewer
  pub settles_fewer : (c c' w : ℕ → ℕ) → AtMost b c c' → Settles b c' w → Settles b c w
  settles_fewer c c' w le settles v l = omega (arith, le v l, settles v l)

  pub settles_same : (c w w' : ℕ → ℕ) → Same b w w' → Settles b c w → Settles b c w'
  settles_same c w w' same settles v l = rw (← same v l) (omega (arith, settles v l, inflow_same w w' same v))

  pub still_below : AllLinked b → (h : ℕ → ℕ) → Still b h → (v : ℕ) → v < b.sites → h v < fires_from b v
  still_below linked h still v l = elim (dec_le (fires_from b v) (h v)) [ yes le ↦ absurd (still v l (linked v l, le)) | no q ↦ omega arith ]

  pub below_still : (h : ℕ → ℕ) → ((v : ℕ) → v < b.sites → h v < fires_from b v) → Still b h
  below_still h low v l can = omega (arith, low v l, can.1)

  -- counts that lead to still heights settle
  pub still_settles : AllLinked b → (c h w : ℕ → ℕ) → Follows b c w h → Still b h → Settles b c w
  still_settles linked c h w follows still v l =
      below (h v) (fires_from b v) (deg b v) (w v) (c v) (inflow b w v) (follows v l) (still_below linked h still v l)

  -- and the heights that settling counts lead to are still
  pub settles_still : (c h w : ℕ → ℕ) → Follows b c w h → Settles b c w → Still b h
  settles_still c h w follows settles = below_still h (λ v l. omega (arith, follows v l, settles v l))

  -- the smaller of two settling lists, site by site, settles
  pub settles_min : (c w w' : ℕ → ℕ) → Settles b c w → Settles b c w' → Settles b c (λ v. min (w v) (w' v))
  settles_min c w w' one two v l =
      elim (dec_le (w v) (w' v)) [
        | yes le ↦
            rw (min-eq_left le)
            (omega (arith, one v l, inflow_le (λ u. min (w u) (w' u)) w (λ u l'. min-le_left (w u) (w' u)) v))
        | no q ↦
            let le : w' v ≤ w v = omega arith in
            rw (min-eq_right le)
            (omega (arith, two v l, inflow_le (λ u. min (w u) (w' u)) w' (λ u l'. min-le_right (w u) (w' u)) v))
      ]

  -- the counts say the heights
  pub follows_once : (c h w h' w' : ℕ → ℕ) → Follows b c w h → Follows b c w' h' → Same b w w' → Same b h h'
  follows_once c h w h' w' one two same v l =
      let f : h v + deg b v * w' v ≡ c v + inflow b w v = rw (same v l) at (one v l) in
      omega (arith, two v l, inflow_same w w' same v)

  pub least_once : (c w w' : ℕ → ℕ) → Least b c w → Least b c w' → Same b w w'
  least_once c w w' one two v l = omega (arith, one.least w' two.settles v l, two.least w one.settles v l)

  pub run_least : Sound b → AllLinked b → (c h w : ℕ → ℕ) → Run b c h w → Still b h → Least b c w
  run_least sound linked c h w r still =
      record {
        settles = still_settles linked c h w (run_follows sound c r) still;
        least = λ w' settles. least_action sound c w' settles r;
      }
