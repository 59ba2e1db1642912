-- What is left to show of `sides`.
use Rattle.std.proofs.Common.{◌≡◌, ◌-◌, arith}
use Rattle.ring.specs.Round.{sides_first, sides_last, sides_between}
use Rattle.ring.proofs.Ring.sides.Goals as goal

pub returns-then-v-eq0 : goal.returns-then-v-eq0
returns-then-v-eq0 c = let at : c.args.v ≡ 0 = c.if-v-eq0.true in rw at (sides_first c.args.self.now.sites c.args.self.now.ok.0)

pub returns-then-v-last : goal.returns-then-v-last
returns-then-v-last c =
    let n = c.args.self.now.sites in
    let at : c.args.v ≡ n - 1 = c.if-v-last.true in
    let two : n - 1 - 1 ≡ n - 2 = omega arith in
    rw (at, two) (sides_last n c.args.self.now.ok.0)

pub returns-else-v-last : goal.returns-else-v-last
returns-else-v-last c = sides_between c.args.self.now.sites c.args.self.now.ok.0 c.args.v c.if-v-eq0.false c.if-v-last.false c.requires
