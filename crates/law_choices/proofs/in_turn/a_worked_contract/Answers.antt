use Rattle.law_choices.proofs.InTurnLemmas.WorkedContract.{some_contracted_law}
use Rattle.law_choices.proofs.in_turn.a_worked_contract.Goals as goal

pub returns : goal.returns
returns c = some_contracted_law c.lines_give_their_functions.ensures.well_made
