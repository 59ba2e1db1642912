use Rattle.firing.proofs.Stands as stands
use Rattle.firing.proofs.laws.runs_agree.Goals as goal

pub returns : goal.returns
returns c = stands.runs_agree
