-- A list of checks passes or refuses and not both; where each check has one place, it refuses in one way.
use mathlib.Core.Path.{◌≡◌, sym, ◌∙◌}
use mathlib.Core.Logic.{inl, inr}
use mathlib.Core.List.{List, [], ◌∷◌}
use Prim.Native.Nat.{ℕ}
use Rattle.refusal.specs.declared.Row.{Row}
use Rattle.refusal.specs.Table.{Check, Passed, First}

pub not_both : (cs : List Check) (r : Row) (p : ℕ) → First cs r p → Passed cs → ⊥
not_both [] r p f s = f
not_both (c ∷ cs) r p (inl h) s = s.0 p h.1
not_both (c ∷ cs) r p (inr h) s = not_both cs r p h.1 s.1

-- each check refuses with one place at the most
abbrev pub Single : List Check → Type 0
Single [] = Unit {0}
Single (c ∷ cs) = ((p q : ℕ) → c.when p → c.when q → p ≡ q) × Single cs

pub one_answer : (cs : List Check) (r s : Row) (p q : ℕ) → Single cs → First cs r p → First cs s q → (r ≡ s) × (p ≡ q)
one_answer [] r s p q one f g = absurd f
one_answer (c ∷ cs) r s p q one (inl f) (inl g) = (f.0 ∙ sym g.0, one.0 p q f.1 g.1)
one_answer (c ∷ cs) r s p q one (inl f) (inr g) = absurd (g.0 p f.1)
one_answer (c ∷ cs) r s p q one (inr f) (inl g) = absurd (f.0 q g.1)
one_answer (c ∷ cs) r s p q one (inr f) (inr g) = one_answer cs r s p q one.1 f.1 g.1
