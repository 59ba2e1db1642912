-- What is left to show of `new`.
use Rattle.std.proofs.Common.{refl, arith, rules}
use Rattle.board.specs.GridsLemmas.{placed}
use Rattle.board.proofs.grid.Grid.new.Goals as goal

pub returns : goal.returns
returns c = (search rules, refl, refl, refl, placed c.args.rows c.args.columns (omega arith))
