-- A site begins to burn, the round goes on, a burnt site is visited: the rounds so far stay right.
use Rattle.std.proofs.Common.{◌≡◌, ℕ, suc, ◌+◌, ◌<◌, ◌≤◌, true, false, cond, ◌||◌, eqb, ltb, List, [], ◌∷◌, ◌++◌, length, set, sym, ap, ◌∙◌, subst, inl, inr, arith}
use Rattle.std.proofs.lemmas.Bool.{both_ways, cases_lt, cases_eq, cond-true, cond-false, eq-eqb, ne_eqb, lt-ltb, le-ltb, ltb-true}
use Rattle.board.specs.Shape.{Shape}
use Rattle.firing.specs.TakingBack.{links_into}
use Rattle.firing.specs.Burning.{unburnt}
use Rattle.firing.proofs.Sets.{into_le, into_same}
use Rattle.firing.proofs.Rounds.{unburnt_never, unburnt_later, unburnt_by}
use Rattle.settling.specs.Searches.{mark, occurs}
use Rattle.settling.proofs.Queues.{hit, miss, mark_here, mark_there}
use Rattle.group.specs.declared.burning.Burnt.{Burnt}
use Rattle.group.specs.Flames.{site_of, Noted, Late, Turns, undone, Right}

-- the rounds with one more
abbrev pub put : (ℕ → ℕ) → ℕ → ℕ → ℕ → ℕ
put ρ v x u = cond (eqb u v) x (ρ u)

pub put_at : (ρ : ℕ → ℕ) (v x u : ℕ) → u ≡ v → put ρ v x u ≡ x
put_at ρ v x u e = cond-true (eqb u v) x (ρ u) (eq-eqb u v e)

pub put_off : (ρ : ℕ → ℕ) (v x u : ℕ) → (u ≡ v → ⊥) → put ρ v x u ≡ ρ u
put_off ρ v x u ne = cond-false (eqb u v) x (ρ u) (ne_eqb u v ne)

pub unburnt_same : (ρ ρ' : ℕ → ℕ) (k u : ℕ) → ρ u ≡ ρ' u → unburnt ρ k u ≡ unburnt ρ' k u
unburnt_same ρ ρ' k u e = ap (λ x. eqb x 0 || ltb k x) e

-- what still counts as unburnt, and what is unburnt by the rounds
pub undone_if : (fs : List ℕ) (u : ℕ) → mark fs u < 2 → undone fs u ≡ true
undone_if fs u l = lt-ltb (mark fs u) 2 l

pub undone_not : (fs : List ℕ) (u : ℕ) → 2 ≤ mark fs u → undone fs u ≡ false
undone_not fs u l = le-ltb (mark fs u) 2 l

module _ (b : Shape) (h : ℕ → ℕ) where
  -- what is unburnt in round r has not been visited
  unburnt_undone : (r : ℕ) (fs : List ℕ) (ρ : ℕ → ℕ) → Right b h r fs ρ → ((u : ℕ) → u < b.sites → mark fs u ≤ 2) → (u : ℕ) → u < b.sites → unburnt ρ r u ≡ true → undone fs u ≡ true
  unburnt_undone r fs ρ R two u l e = elim (cases_lt (mark fs u) 2) [
    | inl lt ↦ undone_if fs u lt
    | inr ge ↦ absurd (both_ways (unburnt ρ r u) (unburnt_by ρ r u (R.some u l (omega arith)) (R.past u l (omega (arith, two u l)))) e)
  ]

  -- v begins to burn in round r + 1
  module _ (r : ℕ) (fs : List ℕ) (ρ : ℕ → ℕ) (R : Right b h r fs ρ) (two : (u : ℕ) → u < b.sites → mark fs u ≤ 2) (v : ℕ) (on : v < b.sites) (long : b.sites ≤ length fs) (nil : mark fs v ≡ 0) where
    abbrev ρ' : ℕ → ℕ
    ρ' = put ρ v (r + 1)

    shrinks : (k u : ℕ) → u < b.sites → unburnt ρ' k u ≡ true → unburnt ρ k u ≡ true
    shrinks k u l e = elim (cases_eq u v) [
      | inl same ↦ unburnt_never ρ k u (R.free u l (ap (mark fs) same ∙ nil))
      | inr apart ↦ unburnt_same ρ ρ' k u (sym (put_off ρ v (r + 1) u apart)) ∙ e
    ]

    same_below : (k : ℕ) → k ≤ r → (u : ℕ) → u < b.sites → unburnt ρ k u ≡ unburnt ρ' k u
    same_below k le u l = elim (cases_eq u v) [
      | inl same ↦ unburnt_never ρ k u (R.free u l (ap (mark fs) same ∙ nil)) ∙ sym (unburnt_later ρ' k u (omega (arith, put_at ρ v (r + 1) u same)))
      | inr apart ↦ unburnt_same ρ ρ' k u (sym (put_off ρ v (r + 1) u apart))
    ]

    into_below : (k : ℕ) → k ≤ r → (w : ℕ) → links_into b (unburnt ρ k) w ≡ links_into b (unburnt ρ' k) w
    into_below k le w = into_same b (unburnt ρ k) (unburnt ρ' k) (same_below k le) w

    sound_here : links_into b (undone fs) v ≤ h v → (w : ℕ) → w ≡ v → (k : ℕ) → ρ' w ≡ suc k → links_into b (unburnt ρ' k) w ≤ h w
    sound_here high w same k e =
        let last : k ≡ r = omega (arith, put_at ρ v (r + 1) w same) in
        let top : links_into b (undone fs) w ≤ h w = subst (λ x. links_into b (undone fs) x ≤ h x) (sym same) high in
        let within = into_le b (unburnt ρ' k) (undone fs) (λ u l t. unburnt_undone r fs ρ R two u l (subst (λ x. unburnt ρ x u ≡ true) last (shrinks k u l t))) w in
        omega arith

    pub right_more : links_into b (undone fs) v ≤ h v → Right b h r (set fs v 1) ρ'
    right_more high = record {
      free = λ u l m. elim (cases_eq u v) [
        | inl same ↦ absurd (omega (arith, mark_here fs v 1 u (omega arith) same))
        | inr apart ↦ put_off ρ v (r + 1) u apart ∙ R.free u l (sym (mark_there fs v 1 u apart) ∙ m)
      ];
      some = λ u l m. elim (cases_eq u v) [
        | inl same ↦ omega (arith, put_at ρ v (r + 1) u same)
        | inr apart ↦ omega (arith, put_off ρ v (r + 1) u apart, R.some u l (omega (arith, mark_there fs v 1 u apart)))
      ];
      most = λ u l. elim (cases_eq u v) [
        | inl same ↦ omega (arith, put_at ρ v (r + 1) u same)
        | inr apart ↦ omega (arith, put_off ρ v (r + 1) u apart, R.most u l)
      ];
      past = λ u l m. elim (cases_eq u v) [
        | inl same ↦ absurd (omega (arith, mark_here fs v 1 u (omega arith) same))
        | inr apart ↦ omega (arith, put_off ρ v (r + 1) u apart, R.past u l (sym (mark_there fs v 1 u apart) ∙ m))
      ];
      sound = λ w l k e. elim (cases_eq w v) [
        | inl same ↦ sound_here high w same k e
        | inr apart ↦ omega (arith, R.sound w l k (sym (put_off ρ v (r + 1) w apart) ∙ e), into_le b (unburnt ρ' k) (unburnt ρ k) (shrinks k) w)
      ];
      late = λ w l k lt. elim (cases_eq w v) [
        | inl same ↦
            let below : k < r = omega (arith, put_at ρ v (r + 1) w same) in
            omega (arith, R.later w l (ap (mark fs) same ∙ nil) k below, into_below k (omega arith) w)
        | inr apart ↦
            let before : suc k < ρ w = omega (arith, put_off ρ v (r + 1) w apart) in
            omega (arith, R.late w l k before, into_below k (omega (arith, R.most w l)) w)
      ];
      later = λ w l m k lt. elim (cases_eq w v) [
        | inl same ↦ absurd (omega (arith, mark_here fs v 1 w (omega arith) same))
        | inr apart ↦ omega (arith, R.later w l (sym (mark_there fs v 1 w apart) ∙ m) k lt, into_below k (omega arith) w)
      ];
    }

  -- all that waits is of round r + 1, and what is unburnt is not as high: round r + 1 begins
  pub right_next : (r : ℕ) (fs : List ℕ) (ρ : ℕ → ℕ) → Right b h r fs ρ → ((u : ℕ) → u < b.sites → mark fs u ≡ 1 → ρ u ≡ r + 1) → ((u : ℕ) → u < b.sites → mark fs u ≡ 0 → h u < links_into b (undone fs) u)
      → Right b h (r + 1) fs ρ
  right_next r fs ρ R wait low = record {
    free = R.free;
    some = R.some;
    most = λ u l. omega (arith, R.most u l);
    past = λ u l m. omega (arith, R.past u l m);
    sound = R.sound;
    late = R.late;
    later = λ v l m k lt. elim (cases_eq k r) [
      | inl same ↦ omega (arith, low v l m, into_le b (undone fs) (unburnt ρ k) (held k same) v)
      | inr apart ↦ R.later v l m k (omega arith)
    ];
  }
    where
      held : (k : ℕ) → k ≡ r → (u : ℕ) → u < b.sites → undone fs u ≡ true → unburnt ρ k u ≡ true
      held k same u l t = elim (cases_eq (mark fs u) 0) [
        | inl z ↦ unburnt_never ρ k u (R.free u l z)
        | inr nz ↦ unburnt_later ρ k u (omega (arith, wait u l (omega (arith, ltb-true (mark fs u) 2 t))))
      ]

  -- v, of round r, is visited
  pub right_visit : (r : ℕ) (fs : List ℕ) (ρ : ℕ → ℕ) (v : ℕ) → v < length fs → mark fs v ≡ 1 → ρ v ≤ r → Right b h r fs ρ → Right b h r (set fs v 2) ρ
  right_visit r fs ρ v l one le R = record {
    free = λ u on m. elim (cases_eq u v) [
      | inl same ↦ absurd (omega (arith, mark_here fs v 2 u l same))
      | inr apart ↦ R.free u on (sym (mark_there fs v 2 u apart) ∙ m)
    ];
    some = λ u on m. elim (cases_eq u v) [
      | inl same ↦ R.some u on (omega (arith, ap (mark fs) same))
      | inr apart ↦ R.some u on (omega (arith, mark_there fs v 2 u apart))
    ];
    most = R.most;
    past = λ u on m. elim (cases_eq u v) [
      | inl same ↦ omega (arith, ap ρ same)
      | inr apart ↦ R.past u on (sym (mark_there fs v 2 u apart) ∙ m)
    ];
    sound = R.sound;
    late = R.late;
    later = λ w on m k lt. elim (cases_eq w v) [
      | inl same ↦ absurd (omega (arith, mark_here fs v 2 w l same))
      | inr apart ↦ R.later w on (sym (mark_there fs v 2 w apart) ∙ m) k lt
    ];
  }

-- the waiting entries
pub late_push : (r : ℕ) (es : List Burnt) (e : Burnt) → e.round ≡ r + 1 → Late r es → Late r (es ++ e ∷ [])
late_push r [] e is l = (is, tt)
late_push r (x ∷ es) e is l = (l.0, late_push r es e is l.1)

pub turns_push : (r : ℕ) (es : List Burnt) (e : Burnt) → e.round ≡ r + 1 → Turns r es → Turns r (es ++ e ∷ [])
turns_push r [] e is t = inr (is, tt)
turns_push r (x ∷ es) e is (inl t) = inl (t.0, turns_push r es e is t.1)
turns_push r (x ∷ es) e is (inr t) = inr (t.0, late_push r es e is t.1)

pub late_turns : (r : ℕ) (es : List Burnt) → Late r es → Turns (r + 1) es
late_turns r [] l = tt
late_turns r (x ∷ es) l = inl (l.0, late_turns r es l.1)

pub noted_push : (ρ : ℕ → ℕ) (es : List Burnt) (e : Burnt) → e.round ≡ ρ e.site → Noted ρ es → Noted ρ (es ++ e ∷ [])
noted_push ρ [] e is l = (is, tt)
noted_push ρ (x ∷ es) e is l = (l.0, noted_push ρ es e is l.1)

pub noted_put : (ρ : ℕ → ℕ) (v x : ℕ) (es : List Burnt) → occurs site_of v es ≡ 0 → Noted ρ es → Noted (put ρ v x) es
noted_put ρ v x [] none l = tt
noted_put ρ v x (e ∷ es) none l = (
  l.0 ∙ sym (put_off ρ v x e.site (λ same. omega (arith, hit v e.site (sym same)))),
  noted_put ρ v x es (omega arith) l.1,
)

-- a site that waits among entries of round r + 1 is of that round
pub late_round : (ρ : ℕ → ℕ) (r u : ℕ) (es : List Burnt) → Late r es → Noted ρ es → 1 ≤ occurs site_of u es → ρ u ≡ r + 1
late_round ρ r u [] l n o = absurd (omega arith)
late_round ρ r u (e ∷ es) l n o = elim (cases_eq u e.site) [
  | inl same ↦ ap ρ same ∙ sym n.0 ∙ l.0
  | inr apart ↦ late_round ρ r u es l.1 n.1 (omega (arith, miss u e.site apart))
]
