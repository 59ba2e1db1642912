use Rattle.firing.proofs.Stands as stands
use Rattle.firing.proofs.laws.reach_linked.Goals as goal

pub returns : goal.returns
returns c = stands.reach_linked
