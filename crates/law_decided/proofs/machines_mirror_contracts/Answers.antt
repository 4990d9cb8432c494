use Rattle.law_decided.proofs.Mirrored.{mirrored}
use Rattle.law_decided.proofs.machines_mirror_contracts.Goals as goal

pub returns : goal.returns
returns c = mirrored c.drawn_nodes_are_mirrored.ensures.mirrors
