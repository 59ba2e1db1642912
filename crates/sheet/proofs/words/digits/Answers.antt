use Rattle.std.proofs.Common.{arith}
use Rattle.sheet.proofs.Decimals.{read_small, read_more, read_all}
use Rattle.sheet.proofs.words.digits.Goals as goal

pub overflow_mul-n : goal.overflow_mul-n
overflow_mul-n c = omega (arith, read_small c.args.word.now c.loop-b.b-index c.loop-b.n c.loop-b.invariant (omega arith) (omega arith))

pub overflow_add-n : goal.overflow_add-n
overflow_add-n c = omega (arith, read_small c.args.word.now c.loop-b.b-index c.loop-b.n c.loop-b.invariant (omega arith) (omega arith))

pub loop-b-preserved : goal.loop-b-preserved
loop-b-preserved c = rw c.from.ensures (read_more c.args.word.now c.loop-b.b-index c.loop-b.n c.loop-b.invariant (omega arith) (omega arith) (omega arith))

pub returns : goal.returns
returns c =
    read_all c.args.word.now c.loop-b.b-index c.loop-b.n c.loop-b.invariant (omega arith) c.requires.some c.requires.short c.requires.plain
