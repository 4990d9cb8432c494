use Rattle.law_choices.proofs.InstancesLemmas.InTheirKinds.{in_kind_law}
use Rattle.law_choices.proofs.instances.instances_react_in_kind.Goals as goal

pub returns : goal.returns
returns c =
    let fit = c.calls_of_ready_nodes_fit.ensures in
    in_kind_law fit.told fit.fits c.ranks_of_points.ensures.program
