use Rattle.firing.proofs.Stands as stands
use Rattle.firing.proofs.laws.plain_heights.Goals as goal

pub returns : goal.returns
returns c = stands.plain_heights
