-- What is left to show of `next`.
use Rattle.std.proofs.Common.{arith}
use Rattle.ring.specs.Round.{m_off_left}
use Rattle.ring.proofs.RingBoard.next.Goals as goal

pub returns-then-v-self : goal.returns-then-v-self
returns-then-v-self c = λ k from. m_off_left c.args.self.now.sites c.args.v k (omega arith)
