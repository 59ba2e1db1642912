use Rattle.firing.proofs.Stands as stands
use Rattle.firing.proofs.laws.identity_once.Goals as goal

pub returns : goal.returns
returns c = stands.identity_once
