-- What is left to show of `laws_hold`.
use Rattle.std.proofs.Common.{refl}
use Rattle.board.specs.Walks.{follows, degrees}
use Rattle.board.proofs.laws_hold.Goals as goal

pub returns : goal.returns
returns c = (refl, λ b ok. (follows ok, degrees ok))
