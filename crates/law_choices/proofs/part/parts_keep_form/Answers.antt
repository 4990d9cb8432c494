use Rattle.law_choices.proofs.PartLemmas.Parts.{ranked_law, no_inputs_law}
use Rattle.law_choices.proofs.PartLemmas.Form.{within_law, names_law}
use Rattle.law_choices.proofs.part.parts_keep_form.Goals as goal

pub returns-clause-ranked : goal.returns-clause-ranked
returns-clause-ranked c = ranked_law

pub returns-clause-no_inputs : goal.returns-clause-no_inputs
returns-clause-no_inputs c = no_inputs_law

pub returns-clause-within : goal.returns-clause-within
returns-clause-within c = within_law

pub returns-clause-names : goal.returns-clause-names
returns-clause-names c = names_law
