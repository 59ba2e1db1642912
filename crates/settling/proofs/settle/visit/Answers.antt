-- What is left to show of `visit`.
use Rattle.std.proofs.Common.{◌≡◌, ◌/◌, min, ◌∙◌, subst}
use Rattle.firing.specs.Firing.{at}
use Rattle.settling.specs.Firings.{Enough}
use Rattle.settling.proofs.Visits.{visited_some, visited_none}
use Rattle.settling.proofs.settle.visit.Goals as goal

pub returns-then-not-is_enough : goal.returns-then-not-is_enough
returns-then-not-is_enough g c =
    visited_none (g.B.Board.shape c.args.board.now) c.args.v c.args.limit c.args.heights.now
    (subst (λ d. Enough d (at c.args.heights.now c.args.v) → ⊥) (c.from-links.ensures ∙ c.degree.ensures) c.if-not-is_enough.ensures)

pub returns : goal.returns
returns g c =
    let h = at c.args.heights.now c.args.v in
    visited_some (g.B.Board.shape c.args.board.now) c.args.v c.args.limit c.args.heights.now c.fire_times.new.heights c.min-times.result c.requires.some
    (subst (λ d. Enough d h) (c.from-links.ensures ∙ c.degree.ensures) c.if-not-is_enough.ensures)
    (subst (λ d. c.min-times.result ≡ min c.args.limit (h / d)) (c.from-links.ensures ∙ c.degree.ensures) c.min-times.ensures)
    c.fire_times.ensures
