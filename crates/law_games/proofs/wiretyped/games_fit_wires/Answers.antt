use Rattle.law_games.proofs.wiretyped.games_fit_wires.Goals as goal
use Rattle.law_games.proofs.WiretypedLemmas.Givens.{choice_fits, inputs_fit, outputs_fit}

pub returns-clause-inputs : goal.returns-clause-inputs
returns-clause-inputs c = inputs_fit

pub returns-clause-choice : goal.returns-clause-choice
returns-clause-choice c = choice_fits

pub returns-clause-outputs : goal.returns-clause-outputs
returns-clause-outputs c = outputs_fit
