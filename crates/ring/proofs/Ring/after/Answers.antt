-- What is left to show of `after`.
use Rattle.std.proofs.Common.{◌%◌, sym, ◌∙◌, ap, inl, inr, arith}
use Rattle.std.proofs.Math.Nat.{mod_self, mod-eq_of_lt}
use Rattle.ring.specs.Round.{after_is}
use Rattle.ring.proofs.Ring.after.Goals as goal

pub returns : goal.returns
returns c =
    let n = c.args.self.now.sites in
    elim (after_is n c.args.v) [
      | inl a ↦ ap (λ x. x % n) a.0 ∙ mod_self n ∙ sym a.1
      | inr a ↦ mod-eq_of_lt (omega (arith, a.0)) ∙ sym a.1
    ]
