use Rattle.law_choices.proofs.InstancesLemmas.Joined.{instances_law}
use Rattle.law_choices.proofs.instances.instances_react_as_callees.Goals as goal

pub returns : goal.returns
returns c =
    let fit = c.calls_of_ready_nodes_fit.ensures in
    instances_law fit.told fit.fits
