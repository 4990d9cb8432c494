use Rattle.law_controlled.proofs.MirrorLaws.{mirrored_law}
use Rattle.law_controlled.proofs.nodes_ask_machines_that_mirror.Goals as goal

pub returns : goal.returns
returns c = mirrored_law c.drawn_machines_mirror.ensures c.drawn_contracts_are_told.ensures.gates
