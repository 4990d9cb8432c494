use Rattle.law_equations.proofs.flattened.variables_stand_for_names.Goals as goal
use Rattle.law_equations.proofs.FlattenedLemmas.NumberLaws.{numbers}

pub returns : goal.returns
returns c = numbers
