use Rattle.law_decided.proofs.Decided.{kept, forced, all_kept, all_safe, text_safe}
use Rattle.law_decided.proofs.decided_contracts_are_so.Goals as goal

pub returns-clause-kept : goal.returns-clause-kept
returns-clause-kept c = kept c.drawn_games_are_kept.ensures.safe

pub returns-clause-forced : goal.returns-clause-forced
returns-clause-forced c = forced c.drawn_games_are_kept.ensures.forced

pub returns-clause-all_kept : goal.returns-clause-all_kept
returns-clause-all_kept c = all_kept c.drawn_games_are_kept.ensures.safe

pub returns-clause-all_safe : goal.returns-clause-all_safe
returns-clause-all_safe c = all_safe c.drawn_games_are_kept.ensures.safe

pub returns-clause-text : goal.returns-clause-text
returns-clause-text c = text_safe c.drawn_games_are_kept.ensures.safe
