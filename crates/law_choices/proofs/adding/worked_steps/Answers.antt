use Rattle.law_choices.proofs.AddingLemmas.WorkedChoosing.{some_called_law, some_choosing_law, some_placed_law}
use Rattle.law_choices.proofs.AddingLemmas.WorkedSteps.{some_controlled_law, some_embedded_law, some_lift_law, some_watched_law, some_watching_law, some_whole_law}
use Rattle.law_choices.proofs.adding.worked_steps.Goals as goal

pub returns-clause-lift : goal.returns-clause-lift
returns-clause-lift c = some_lift_law

pub returns-clause-controlled : goal.returns-clause-controlled
returns-clause-controlled c = some_controlled_law

pub returns-clause-whole : goal.returns-clause-whole
returns-clause-whole c = some_whole_law

pub returns-clause-embedded : goal.returns-clause-embedded
returns-clause-embedded c = some_embedded_law

pub returns-clause-watched : goal.returns-clause-watched
returns-clause-watched c = some_watched_law

pub returns-clause-watching : goal.returns-clause-watching
returns-clause-watching c = some_watching_law

pub returns-clause-choosing : goal.returns-clause-choosing
returns-clause-choosing c = some_choosing_law

pub returns-clause-placed : goal.returns-clause-placed
returns-clause-placed c = some_placed_law

pub returns-clause-called : goal.returns-clause-called
returns-clause-called c = some_called_law
