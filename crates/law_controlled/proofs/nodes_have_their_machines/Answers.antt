use Rattle.law_controlled.proofs.HeadedLaws.{headed_law}
use Rattle.law_controlled.proofs.nodes_have_their_machines.Goals as goal

pub returns : goal.returns
returns c = headed_law
