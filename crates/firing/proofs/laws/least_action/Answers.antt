use Rattle.firing.proofs.Stands as stands
use Rattle.firing.proofs.laws.least_action.Goals as goal

pub returns : goal.returns
returns c = stands.least_action
