use Rattle.firing.proofs.Stands as stands
use Rattle.firing.proofs.laws.conserves.Goals as goal

pub returns : goal.returns
returns c = stands.conserves
