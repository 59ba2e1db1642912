-- What is left to show of `degree`.
use Rattle.std.proofs.Common.{sym, arith}
use Rattle.board.specs.Walks.{deg_off}
use Rattle.board.specs.GridsLemmas.{sites_are, grid_sound}
use Rattle.board.proofs.Fours.{four}
use Rattle.board.proofs.grid.GridBoard.degree.Goals as goal

pub returns-then-v-self : goal.returns-then-v-self
returns-then-v-self c =
    let b = c.args.self.now in
    sym (deg_off (grid_sound b.rows b.columns b.ok.2 b.ok.0 b.ok.1 b.ok.3) c.args.v (omega (arith, sites_are b.rows b.columns)))

pub returns : goal.returns
returns c =
    let b = c.args.self.now in
    sym (four b.rows b.columns b.ok.2 c.args.v (omega arith))
