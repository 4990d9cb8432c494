use Rattle.hp_boolx.proofs.SolvedLaws.{win-at, lose-at}
use Rattle.hp_boolx.proofs.laws.rounds_solve.Goals as goal

pub returns-clause-win : goal.returns-clause-win
returns-clause-win c = win-at

pub returns-clause-lose : goal.returns-clause-lose
returns-clause-lose c = lose-at
