use Rattle.firing.proofs.Examples as examples
use Rattle.firing.proofs.worked.results.Goals as goal

pub returns : goal.returns
returns c = examples.worked
