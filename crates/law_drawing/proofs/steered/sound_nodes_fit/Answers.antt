use Rattle.law_drawing.proofs.SteeredLemmas.Accepted.{contract-fits, node-fits}
use Rattle.law_drawing.proofs.steered.sound_nodes_fit.Goals as goal

pub returns : goal.returns
returns c = record { contracts = contract-fits; nodes = node-fits }
