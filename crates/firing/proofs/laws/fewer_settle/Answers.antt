use Rattle.firing.proofs.Stands as stands
use Rattle.firing.proofs.laws.fewer_settle.Goals as goal

pub returns : goal.returns
returns c = stands.fewer_settle
