use Rattle.law_choices.proofs.SeeingLemmas.Plants.{plant_names_law, plant_reaction_law}
use Rattle.law_choices.proofs.seeing.closed_nodes_react_as_their_plants.Goals as goal

pub returns-clause-reaction : goal.returns-clause-reaction
returns-clause-reaction c = plant_reaction_law c.added_equations_give_inputs.ensures

pub returns-clause-names : goal.returns-clause-names
returns-clause-names c = plant_names_law c.added_equations_give_inputs.ensures
