use Rattle.law_drawing.specs.Steered.Laws.{told_by, held_by}
use Rattle.law_drawing.proofs.SteeredLemmas.Definitions.{definition-marked}
use Rattle.law_drawing.proofs.SteeredLemmas.Expressions.{expr}
use Rattle.law_drawing.proofs.steered.expressions_are_marked.Goals as goal

pub returns-clause-marked : goal.returns-clause-marked
returns-clause-marked c = λ f free t brings held z context names b e clock k spot s ms fit owes placed marks place seen.
    expr (told_by f free) t brings (held_by held) z context names b e clock k spot fit owes s ms placed (record { marks = marks; placed = place; seen = seen })

pub returns-clause-defined : goal.returns-clause-defined
returns-clause-defined c = λ f free t brings held z context names b ds xs e clock k spot s ms fit owes placed marks place seen own.
    definition-marked (told_by f free) t brings (held_by held) z context names b ds xs e clock k spot s ms fit owes placed (record { marks = marks; placed = place; seen = seen }) own
