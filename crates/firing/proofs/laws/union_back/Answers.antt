use Rattle.firing.proofs.Stands as stands
use Rattle.firing.proofs.laws.union_back.Goals as goal

pub returns : goal.returns
returns c = stands.union_back
