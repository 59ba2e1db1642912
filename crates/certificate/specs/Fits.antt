-- Certificates that can be judged.
use Rattle.std.specs.Prelude.{◌≡◌, ℕ, ◌≤◌, List, length}
use Rattle.firing.specs.Firing.{at}

-- no entry is above the limit
abbrev pub Within : ℕ → List ℕ → Type 0
Within limit xs = (v : ℕ) → at xs v ≤ limit

-- all within their limits
abbrev pub Low : List ℕ → List ℕ → List ℕ → Type 0
Low c w h = Within 1000000 c × Within 1000000000000 w × Within 1000000 h

-- as many entries as sites, and no number beyond its limit
pub record Fit (n : ℕ) (c w h : List ℕ) : Type 0 where
  pub start : length c ≡ n
  pub counts : length w ≡ n
  pub end : length h ≡ n
  pub low : Low c w h
