use Rattle.law_choices.proofs.InstancesLemmas.ShortRuns.{short_law}
use Rattle.law_choices.proofs.instances.instants_hold_short_integers.Goals as goal

pub returns : goal.returns
returns c = short_law
