use Rattle.law_games.proofs.GuaranteedLemmas.Kept.{choices_kept, runs_kept, node_runs_kept, own_contract_kept}
use Rattle.law_games.proofs.guaranteed.runs_keep_contracts.Goals as goal

pub returns-clause-choices : goal.returns-clause-choices
returns-clause-choices c = choices_kept c.run_keeps_contracts.ensures.reaction

pub returns-clause-runs : goal.returns-clause-runs
returns-clause-runs c = runs_kept c.run_keeps_contracts.ensures.reaction

pub returns-clause-node_runs : goal.returns-clause-node_runs
returns-clause-node_runs c = node_runs_kept c.run_keeps_contracts.ensures.reaction

pub returns-clause-own : goal.returns-clause-own
returns-clause-own c = own_contract_kept c.run_keeps_contracts.ensures.reaction
