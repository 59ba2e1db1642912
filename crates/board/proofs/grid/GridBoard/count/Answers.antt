-- What is left to show of `count`.
use Rattle.std.proofs.Common.{arith}
use Rattle.board.specs.GridsLemmas.{sites_are}
use Rattle.board.proofs.grid.GridBoard.count.Goals as goal

pub returns : goal.returns
returns c = omega (arith, sites_are c.args.self.now.rows c.args.self.now.columns)
