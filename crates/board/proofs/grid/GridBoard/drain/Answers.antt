-- What is left to show of `drain`.
use Rattle.std.proofs.Common.{sym, ◌∙◌, ap, arith}
use Rattle.board.specs.Grids.{missing, row_of}
use Rattle.board.specs.GridsLemmas.{s_off, s_in}
use Rattle.board.proofs.Ones.{from_bool_is}
use Rattle.board.proofs.grid.GridBoard.drain.Goals as goal

pub returns-then-v-self : goal.returns-then-v-self
returns-then-v-self c = sym (s_off c.args.self.now.rows c.args.self.now.columns c.args.v (omega arith))

pub returns : goal.returns
returns c =
    let g = c.args.self.now in
    let at = c.place-row.ensures in
    omega (
      arith,
      c.from.ensures ∙ from_bool_is _,
      c.from-2.ensures ∙ from_bool_is _,
      c.from-3.ensures ∙ from_bool_is _,
      c.from-4.ensures ∙ from_bool_is _,
      s_in g.rows g.columns c.args.v (omega arith),
      ap (λ r. missing g.rows g.columns r c.place-row.result.column) at.0,
      ap (missing g.rows g.columns (row_of g.columns c.args.v)) at.1,
    )
