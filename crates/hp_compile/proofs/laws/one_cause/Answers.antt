use Rattle.hp_compile.proofs.OneCauseLaws.{no_cause, one_cause}
use Rattle.hp_compile.proofs.laws.one_cause.Goals as goal

pub returns-clause-one : goal.returns-clause-one
returns-clause-one c = one_cause

pub returns-clause-none : goal.returns-clause-none
returns-clause-none c = no_cause
