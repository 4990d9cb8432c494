use Rattle.law_games.proofs.ready_games.programs_of_texts_are_in_order.Goals as goal
use Rattle.law_games.proofs.ReadyGamesLemmas.Ordered.{text_order, all_stand}

pub returns-clause-order : goal.returns-clause-order
returns-clause-order c = text_order

pub returns-clause-stands : goal.returns-clause-stands
returns-clause-stands c = all_stand
