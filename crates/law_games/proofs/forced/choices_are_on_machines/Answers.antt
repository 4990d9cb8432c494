use Rattle.law_games.proofs.forced.choices_are_on_machines.Goals as goal
use Rattle.law_games.proofs.ForcedLemmas.OnMachines.{on_machines, some_choice}

pub returns-clause-choices : goal.returns-clause-choices
returns-clause-choices c = on_machines c.choices_are_kept.ensures.permitted c.choices_are_kept.ensures.chosen

pub returns-clause-some : goal.returns-clause-some
returns-clause-some c = some_choice c.choices_are_kept.ensures.some
