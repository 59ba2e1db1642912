-- The worked results, each proved where it belongs.
use Rattle.firing.proofs.Examples as examples
use Rattle.pile.proofs.Results.{middle_earthed, ends_merged}
use Rattle.worked.proofs.Pairs.{accepted, end_fires, taken_back}
use Rattle.worked.proofs.all_results.Goals as goal

pub returns : goal.returns
returns c = record { grids = examples.worked; middle_earthed = middle_earthed; ends_merged = ends_merged; accepted = accepted; end_fires = end_fires; taken_back = taken_back }
