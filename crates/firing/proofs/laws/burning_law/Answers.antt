use Rattle.firing.proofs.Stands as stands
use Rattle.firing.proofs.laws.burning_law.Goals as goal

pub returns : goal.returns
returns c = stands.burning_law
