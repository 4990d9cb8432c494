use Rattle.law_choices.proofs.AddingLemmas.Placed.{placed_law, placed_loop_law, placed_reaction_law}
use Rattle.law_choices.proofs.adding.places_may_change.Goals as goal

pub returns-clause-built : goal.returns-clause-built
returns-clause-built c = placed_law

pub returns-clause-reactions : goal.returns-clause-reactions
returns-clause-reactions c = placed_reaction_law

pub returns-clause-loops : goal.returns-clause-loops
returns-clause-loops c = placed_loop_law
