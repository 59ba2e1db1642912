-- What is left to show of `close`.
use Rattle.bench.specs.States.{state}
use Rattle.bench.proofs.Keeping.{law_recorded, law_since}
use Rattle.bench.proofs.Bench.close.Goals as goal

pub returns-in-Ok-clause-least : goal.returns-in-Ok-clause-least
returns-in-Ok-clause-least g c start ds law =
    let x = state c.args.self.now in
    let s = g.B.Board.shape c.args.board.now in
    let ok = g.met.B.Board.sound c.args.board.now in
    let still = c.in-Ok.ensures.2 in
    (law_recorded s ok start ds x c.record-record.result still c.record-record.ensures law, law_since s ok start ds x still law)
