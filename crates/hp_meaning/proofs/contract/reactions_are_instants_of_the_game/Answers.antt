use Rattle.hp_meaning.proofs.contract.reactions_are_instants_of_the_game.Goals as goal
use Rattle.hp_meaning.proofs.ContractLemmas.Guarantees.{erased_next}

pub returns : goal.returns
returns c = erased_next
