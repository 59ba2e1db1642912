use Rattle.firing.proofs.Trials as trials
use Rattle.firing.proofs.worked.examples_hold.Goals as goal

pub returns : goal.returns
returns c = trials.checks
