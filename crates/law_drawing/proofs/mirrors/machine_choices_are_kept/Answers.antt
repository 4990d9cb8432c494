use Rattle.law_drawing.proofs.MirrorsLemmas.Choices.{preferred_is, chosen}
use Rattle.law_drawing.proofs.mirrors.machine_choices_are_kept.Goals as goal

pub returns-clause-preferred : goal.returns-clause-preferred
returns-clause-preferred c = preferred_is

pub returns-clause-chosen : goal.returns-clause-chosen
returns-clause-chosen c = chosen c.choices_are_on_machines.ensures.choices
