-- What is left to show of `can_fire`.
use Rattle.std.proofs.Common.{MatchBool, sym, ◌∙◌, subst}
use Rattle.std.proofs.lemmas.Bool.{le-ltb}
use Rattle.firing.specs.Firing.{CanFire, at}
use Rattle.settling.proofs.Ready.{tested, past_still}
use Rattle.settling.proofs.fire.can_fire.Goals as goal

pub returns-then-v-heights : goal.returns-then-v-heights
returns-then-v-heights g c =
    tested (g.B.Board.shape c.args.board.now) (at c.args.heights.now) c.args.v c.from.result c.is_enough.result
    (c.from.ensures ∙ c.degree.ensures) c.is_enough.ensures

pub returns-else-v-heights : goal.returns-else-v-heights
returns-else-v-heights g c =
    let b = g.B.Board.shape c.args.board.now in
    let can = CanFire b (at c.args.heights.now) c.args.v in
    subst (λ r. MatchBool r can (can → ⊥)) (sym (le-ltb c.args.v _ c.if-v-heights.false)) (past_still b c.args.heights.now c.args.v c.if-v-heights.false)
