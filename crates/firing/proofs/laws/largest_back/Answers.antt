use Rattle.firing.proofs.Stands as stands
use Rattle.firing.proofs.laws.largest_back.Goals as goal

pub returns : goal.returns
returns c = stands.largest_back
