-- What the layers share: a site left out, and the sites above it moved down by one.
use Rattle.std.specs.Prelude.{◌≡◌, ℕ, ◌+◌, cond, None, Option, ◌==◌, nat_lt}

-- the site of the board below that a site of the layer is, where w is left out
abbrev pub up : ℕ → ℕ → ℕ
up w v = cond (nat_lt v w) v (v + 1)

-- f, with nothing at w
abbrev pub but : ℕ → (ℕ → ℕ) → ℕ → ℕ
but w f k = cond (w == k) 0 (f k)

-- a layer is set
abbrev pub Set : {X : Type 0} → Option X → Type 0
Set o = o ≡ None → ⊥
