-- What is left to show of `middle_earthed`.
use Rattle.std.proofs.Common.{Ok, ap, ◌∙◌}
use Rattle.layer.specs.Earths.{earthed}
use Rattle.board.specs.Grids.{grid_of}
use Rattle.pile.specs.Worked.{figures_of}
use Rattle.pile.proofs.Results.{middle_earthed, earth_goes, is_grid}
use Rattle.pile.proofs.worked.middle_earthed.Goals as goal

pub returns-in_err-earth : goal.returns-in_err-earth
returns-in_err-earth c =
    let made = c.in_ok-grid.ensures in
    let grid = c.in_ok-grid.grid in
    absurd (earth_goes (grid_of grid.rows grid.columns) c.in_err-earth.field-0.0 (is_grid grid.rows grid.columns made.1 made.2) c.in_err-earth.ensures)

pub returns : goal.returns
returns c =
    let made = c.in_ok-grid.ensures in
    let grid = c.in_ok-grid.grid in
    let same = c.in_ok-earth.ensures.1 ∙ ap (earthed 1) (is_grid grid.rows grid.columns made.1 made.2) in
    (ap Ok (c.figures.ensures ∙ ap figures_of same ∙ middle_earthed), middle_earthed)
