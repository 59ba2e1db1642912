-- What is left to show of `run_within`.
use Rattle.bench.proofs.Totals.{none_fired}
use Rattle.bench.proofs.firings.run_within.Goals as goal

pub returns-then-limit-eq0 : goal.returns-then-limit-eq0
returns-then-limit-eq0 g c = none_fired (g.B.Board.shape c.args.board.now) (g.met.B.Board.sound c.args.board.now) c.args.heights.now c.args.counts.now c.args.limit c.lowest_ready.result c.is_none.result c.if-limit-eq0.true c.lowest_ready.ensures c.is_none.ensures
