use Rattle.law_controlled.specs.Names.{PlantNamesLaw}
use Rattle.law_controlled.proofs.MadeNamesLaws.{made_names}
use Rattle.law_controlled.proofs.PlantLaws.{plant_names}
use Rattle.law_controlled.proofs.names_of_what_is_made_differ.Goals as goal

pub returns-clause-plants : goal.returns-clause-plants
returns-clause-plants c =
    let apart = c.names_are_apart.ensures in
    plant_names apart.scoped apart.lowered c.controls_are_apart.ensures (record { names = c.names_fit.ensures; free = c.larger_names_are_free.ensures })

pub returns-clause-made : goal.returns-clause-made
returns-clause-made c =
    let apart = c.names_are_apart.ensures in
    let plants : PlantNamesLaw = plant_names apart.scoped apart.lowered c.controls_are_apart.ensures (record { names = c.names_fit.ensures; free = c.larger_names_are_free.ensures }) in
    made_names c.names_are_own.ensures c.added_names_differ.ensures.names plants
