use Rattle.law_choices.proofs.IndependentLemmas.Words.{inputs_law, controls_law}
use Rattle.law_choices.proofs.independent.independent_names_stay_so.Goals as goal

pub returns-clause-inputs : goal.returns-clause-inputs
returns-clause-inputs c = inputs_law c.automata_add_no_dependence.ensures

pub returns-clause-controls : goal.returns-clause-controls
returns-clause-controls c = controls_law c.same_reads.ensures c.automata_add_no_dependence.ensures
