-- What is left to show of `drain`.
use Rattle.std.proofs.Common.{eqb, arith}
use Rattle.board.proofs.Ones.{from_bool_is}
use Rattle.ring.specs.Rings.{ring_of}
use Rattle.ring.proofs.RingBoard.drain.Goals as goal

pub returns : goal.returns
unfolding ring_of
returns c = omega (arith, c.from.ensures, from_bool_is (eqb c.args.v 0))
