use Rattle.hp_diagram.proofs.Choices.{Keeps-trans}
use Rattle.hp_play.proofs.Failing.{held}
use Rattle.hp_play.proofs.picking.literal.Goals as goal

pub returns-clause-keeps : goal.returns-clause-keeps
returns-clause-keeps c = held c.not.result (Keeps-trans _ _ _ c.var.ensures.keeps c.not.ensures.keeps)
