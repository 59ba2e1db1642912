use Rattle.firing.proofs.Stands as stands
use Rattle.firing.proofs.laws.certificate_law.Goals as goal

pub returns : goal.returns
returns c = stands.certificate_law
