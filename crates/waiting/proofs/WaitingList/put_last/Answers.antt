-- What is left to show of `put_last`.
use Rattle.std.proofs.Common.{arith}
use Rattle.waiting.proofs.Circles.{push_after, length_waiting}
use Rattle.waiting.proofs.WaitingList.put_last.Goals as goal

pub returns-clause-pushed : goal.returns-clause-pushed
returns-clause-pushed g c =
    let s = c.args.self.now.slots.now in
    let h = c.args.self.now.head in
    let n = c.args.self.now.len in
    (c.requires, push_after s h n c.slot_after-at.result c.args.x (omega arith) (omega (arith, c.requires, length_waiting s h n (omega arith) (omega arith))) c.slot_after-at.ensures)
