use Rattle.hp_boolx.proofs.SolvedLaws.{win-proves, lose-proves, certificate-win, certificate-lose}
use Rattle.hp_boolx.proofs.laws.certificates_prove.Goals as goal

pub returns-clause-win : goal.returns-clause-win
returns-clause-win c = win-proves

pub returns-clause-lose : goal.returns-clause-lose
returns-clause-lose c = lose-proves

pub returns-clause-of_win : goal.returns-clause-of_win
returns-clause-of_win c = certificate-win

pub returns-clause-of_lose : goal.returns-clause-of_lose
returns-clause-of_lose c = certificate-lose
