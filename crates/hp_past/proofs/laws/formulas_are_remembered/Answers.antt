use Rattle.hp_past.proofs.ReactionLaws.{remembered, whole-past}
use Rattle.hp_past.proofs.laws.formulas_are_remembered.Goals as goal

pub returns-clause-value : goal.returns-clause-value
returns-clause-value c = remembered

pub returns-clause-past : goal.returns-clause-past
returns-clause-past c = whole-past
