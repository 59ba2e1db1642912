-- What is left to show of `ends_merged`.
use Rattle.std.proofs.Common.{Ok, ap, ◌∙◌}
use Rattle.layer.specs.Merges.{merged}
use Rattle.board.specs.Grids.{grid_of}
use Rattle.pile.specs.Worked.{figures_of}
use Rattle.pile.proofs.Results.{ends_merged, merge_goes, is_grid}
use Rattle.pile.proofs.worked.ends_merged.Goals as goal

pub returns-in_err-merge : goal.returns-in_err-merge
returns-in_err-merge c =
    let made = c.in_ok-grid.ensures in
    let grid = c.in_ok-grid.grid in
    absurd (merge_goes (grid_of grid.rows grid.columns) c.in_err-merge.field-0.0 (is_grid grid.rows grid.columns made.1 made.2) c.in_err-merge.ensures)

pub returns : goal.returns
returns c =
    let made = c.in_ok-grid.ensures in
    let grid = c.in_ok-grid.grid in
    let same = c.in_ok-merge.ensures.1 ∙ ap (merged 2 0) (is_grid grid.rows grid.columns made.1 made.2) in
    (ap Ok (c.figures.ensures ∙ ap figures_of same ∙ ends_merged), ends_merged)
