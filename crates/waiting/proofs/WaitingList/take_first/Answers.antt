-- What is left to show of `take_first`.
use Rattle.std.proofs.Common.{arith}
use Rattle.waiting.proofs.Circles.{pop_after}
use Rattle.waiting.proofs.WaitingList.take_first.Goals as goal

pub returns-clause-first : goal.returns-clause-first
returns-clause-first g c =
    let s = c.args.self.now in
    pop_after s.slots.now s.head s.len c.slot_after-at.result c.index-self-at.result (omega arith) (omega arith) (omega arith) c.slot_after-at.ensures
