-- What is left to show of `count`.
use Rattle.std.proofs.Common.{refl}
use Rattle.ring.specs.Rings.{ring_of}
use Rattle.ring.proofs.RingBoard.count.Goals as goal

pub returns : goal.returns
unfolding ring_of
returns c = refl
