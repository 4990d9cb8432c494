use Rattle.law_equations.proofs.fewer.order_keeps_reactions.Goals as goal
use Rattle.law_equations.proofs.FewerLemmas.OrderLaws.{order_law, reordered_law}

pub returns-clause-order : goal.returns-clause-order
returns-clause-order c = order_law

pub returns-clause-reactions : goal.returns-clause-reactions
returns-clause-reactions c = reordered_law
