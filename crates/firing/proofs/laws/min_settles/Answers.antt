use Rattle.firing.proofs.Stands as stands
use Rattle.firing.proofs.laws.min_settles.Goals as goal

pub returns : goal.returns
returns c = stands.min_settles
