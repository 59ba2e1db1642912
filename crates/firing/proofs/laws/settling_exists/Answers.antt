use Rattle.firing.proofs.Stands as stands
use Rattle.firing.proofs.laws.settling_exists.Goals as goal

pub returns : goal.returns
returns c = stands.settling_exists
