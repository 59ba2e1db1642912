-- The memory of a fire over the same heights.
use Rattle.std.proofs.Common.{◌≡◌, ℕ, ◌≤◌, length, ap, arith}
use Rattle.group.specs.declared.burning.rounds.Fire.{Fire}

pub marks_on : (n : ℕ) (f f' : Fire) → length f.heights.now ≡ n → f'.heights.now ≡ f.heights.now → n ≤ length f'.marks.now
marks_on n f f' sized same = omega (arith, f'.marks_fit, ap length same)
