use Rattle.law_choices.proofs.chosen.nil_choices_are_on_machines.Goals as goal
use Rattle.law_choices.proofs.ChosenLemmas.Chosen.{on_machines}

pub returns : goal.returns
returns c = on_machines c.choices_are_on_machines.ensures.choices c.machine_choices_are_kept.ensures.preferred
