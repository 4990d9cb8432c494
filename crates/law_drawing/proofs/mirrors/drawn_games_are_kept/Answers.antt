use Rattle.law_games.proofs.ForcedLemmas.Games.{contract_game, contract_safe, later}
use Rattle.law_drawing.proofs.mirrors.drawn_games_are_kept.Goals as goal

pub returns-clause-forced : goal.returns-clause-forced
returns-clause-forced c = λ program after ranks o earlier n st circuit m is made.
    contract_game program after ranks o earlier n st m (c.drawn_nodes_are_mirrored.ensures.mirrors program after ranks o earlier n st circuit m is made)

pub returns-clause-safe : goal.returns-clause-safe
returns-clause-safe c = λ program after ranks o earlier n st circuit m is made.
    contract_safe program after ranks o earlier n st m (c.drawn_nodes_are_mirrored.ensures.mirrors program after ranks o earlier n st circuit m is made)

pub returns-clause-later : goal.returns-clause-later
returns-clause-later c = λ program after ranks o earlier n st circuit m is made.
    later program after ranks o earlier n st m (c.drawn_nodes_are_mirrored.ensures.mirrors program after ranks o earlier n st circuit m is made)
