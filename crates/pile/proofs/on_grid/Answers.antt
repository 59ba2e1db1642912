-- What is left to show of `on_grid`.
use Rattle.std.proofs.Common.{ap, ◌∙◌}
use Rattle.board.specs.Grids.{grid_of}
use Rattle.layer.specs.Earths.{earth_of}
use Rattle.layer.specs.Merges.{merge_of}
use Rattle.layer.specs.Cuts.{cut_of}
use Rattle.pile.proofs.Fresh.{renamed, gridded}
use Rattle.pile.proofs.on_grid.Goals as goal

pub returns : goal.returns
returns c =
    let grid = c.in_ok-new.field-0 in
    let made = c.in_ok-new.ensures in
    let same = ap (λ r. grid_of r grid.columns) made.1 ∙ ap (grid_of c.args.rows) made.2 in
    gridded c.args.rows c.args.columns c.args.plan.site c.args.plan.pair c.args.plan.link _ c.pile_up.result made.0
    (renamed (grid_of grid.rows grid.columns) (grid_of c.args.rows c.args.columns) c.args.plan.site c.args.plan.pair c.args.plan.link
    (λ e. cut_of (merge_of (earth_of (grid_of e.below.below.below.rows e.below.below.below.columns) e.below.below.site) e.below.pair) e.entries.items)
    c.pile_up.result same c.pile_up.ensures)
