-- What is left to show of `fire_times`.
use Rattle.std.proofs.Common.{◌+◌, ◌*◌, get_or, ap, ◌∙◌, arith, length-set}
use Rattle.settling.proofs.Spread.{spread_more, add_fits}
use Rattle.settling.proofs.fire.fire_times.Goals as goal

pub overflow_mul-heights : goal.overflow_mul-heights
overflow_mul-heights g c =
    let fits = add_fits (g.met.B.Board.sound c.args.board.now) c.args.v c.args.times c.loop-u.j c.in-Some.u _ c.args.heights.now c.loop-u.heights
    (omega arith) (omega arith) (omega arith) c.loop-u.invariant c.in-Some.ensures c.requires.low in
    omega (arith, ap (λ m. m * c.args.times) (c.from.ensures ∙ c.links.ensures))

pub overflow_add-heights : goal.overflow_add-heights
overflow_add-heights g c =
    let fits = add_fits (g.met.B.Board.sound c.args.board.now) c.args.v c.args.times c.loop-u.j c.in-Some.u _ c.args.heights.now c.loop-u.heights
    (omega arith) (omega arith) (omega arith) c.loop-u.invariant c.in-Some.ensures c.requires.low in
    omega (arith, ap (λ m. m * c.args.times) (c.from.ensures ∙ c.links.ensures))

pub loop-u-preserved : goal.loop-u-preserved
loop-u-preserved g c =
    spread_more (g.met.B.Board.sound c.args.board.now) c.args.v c.args.times c.loop-u.j c.in-Some.u _ _ c.loop-u.heights
    (omega (arith, simp length-set at c.loop-u.auto.heights)) c.loop-u.invariant c.in-Some.ensures
    (omega (arith, ap (λ m. m * c.args.times) (c.from.ensures ∙ c.links.ensures)))
