use Rattle.law_drawing.proofs.carrying.expressions_are_drawn.Goals as goal
use Rattle.law_drawing.proofs.CarryingLemmas.ExpressionLaws.{expression, no-calls}

pub returns-clause-carried : goal.returns-clause-carried
returns-clause-carried c = expression

pub returns-clause-without_calls : goal.returns-clause-without_calls
returns-clause-without_calls c = no-calls
