use Rattle.hp_complete.proofs.PlacedLaws.{stands-for}
use Rattle.hp_complete.proofs.flat_nodes_stand_for_flat_names.Goals as goal

pub returns : goal.returns
returns c = stands-for
