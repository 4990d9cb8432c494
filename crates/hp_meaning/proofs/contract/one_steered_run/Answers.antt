use Rattle.hp_meaning.proofs.contract.one_steered_run.Goals as goal
use Rattle.hp_meaning.proofs.ContractLemmas.Steered.{one_reaction_by}

pub returns : goal.returns
returns c = one_reaction_by
