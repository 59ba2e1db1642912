-- What is left to show of `next`.
use Rattle.std.proofs.Common.{arith}
use Rattle.board.specs.GridsLemmas.{m_off_left}
use Rattle.board.proofs.grid.GridBoard.next.Goals as goal

pub returns-then-v-self : goal.returns-then-v-self
returns-then-v-self c = λ k from. m_off_left c.args.self.now.rows c.args.self.now.columns c.args.v k (omega arith)
