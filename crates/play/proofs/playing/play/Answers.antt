-- What is left to show of `play`.
use Rattle.play.proofs.Rounds.{whole_least}
use Rattle.play.proofs.playing.play.Goals as goal

pub returns-clause-least : goal.returns-clause-least
returns-clause-least g c = whole_least c.in_ok-bench.ensures.1.heights c.play_on.ensures.played
