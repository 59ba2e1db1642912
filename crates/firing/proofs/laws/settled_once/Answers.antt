use Rattle.firing.proofs.Stands as stands
use Rattle.firing.proofs.laws.settled_once.Goals as goal

pub returns : goal.returns
returns c = stands.settled_once
