use Rattle.hp_diagram.proofs.Choices.{Keeps-trans}
use Rattle.hp_play.proofs.Failing.{further}
use Rattle.hp_play.proofs.losing.free_at.Goals as goal

pub returns-clause-keeps : goal.returns-clause-keeps
returns-clause-keeps c =
    further c.free_values.result (λ k. Keeps-trans _ _ _ (Keeps-trans _ _ _ c.not.ensures.keeps c.or.ensures.keeps) k)
    c.free_values.ensures.keeps
