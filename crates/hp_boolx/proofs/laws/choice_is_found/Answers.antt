use Rattle.hp_boolx.proofs.SolvedLaws.{some-permitted, permissive, win-choice, choice-one}
use Rattle.hp_boolx.proofs.laws.choice_is_found.Goals as goal

pub returns-clause-some : goal.returns-clause-some
returns-clause-some c = some-permitted

pub returns-clause-permissive : goal.returns-clause-permissive
returns-clause-permissive c = permissive

pub returns-clause-found : goal.returns-clause-found
returns-clause-found c = win-choice

pub returns-clause-one : goal.returns-clause-one
returns-clause-one c = choice-one
