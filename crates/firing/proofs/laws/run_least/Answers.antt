use Rattle.firing.proofs.Stands as stands
use Rattle.firing.proofs.laws.run_least.Goals as goal

pub returns : goal.returns
returns c = stands.run_least
