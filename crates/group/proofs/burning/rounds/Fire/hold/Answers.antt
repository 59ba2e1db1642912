-- What is left to show of `hold`.
use Rattle.std.proofs.Common.{arith}
use Rattle.waiting.specs.WaitingLists.{waits}
use Rattle.firing.specs.Firing.{at}
use Rattle.group.proofs.Visits.{few_rounds, held_burns}
use Rattle.group.proofs.burning.rounds.Fire.hold.Goals as goal

pub overflow_add-round : goal.overflow_add-round
overflow_add-round g c =
    let f = c.args.self.now in
    omega (arith, few_rounds (g.B.Board.shape c.args.board.now) (at f.heights.now) c.args.last (waits f.list) f.marks.now c.args.rounds.now c.requires.burning, (g.met.B.Board.sound c.args.board.now).few)

pub returns-then-self-u-clause-held : goal.returns-then-self-u-clause-held
returns-then-self-u-clause-held g c =
    let f = c.args.self.now in
    held_burns (g.B.Board.shape c.args.board.now) (at f.heights.now) c.args.last c.args.u f.list c.push-pushed.new.self c.push-pushed.result f.marks.now c.args.rounds.now (omega arith) (omega arith) (omega arith)
    c.requires.on c.requires.unburnt c.requires.count (omega arith) c.requires.burning c.push-pushed.ensures.pushed
