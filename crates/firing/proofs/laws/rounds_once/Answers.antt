use Rattle.firing.proofs.Stands as stands
use Rattle.firing.proofs.laws.rounds_once.Goals as goal

pub returns : goal.returns
returns c = stands.rounds_once
