use Rattle.std.proofs.Common.{◌∙◌}
use Rattle.std.proofs.lemmas.Result.{on_ok_weaker}
use Rattle.hp_print.proofs.FirstLaws.{transitions-first}
use Rattle.hp_print.proofs.printer.Printer.transitions.Goals as goal

pub returns-in_ok-transition-in-len1-up : goal.returns-in_ok-transition-in-len1-up
returns-in_ok-transition-in-len1-up c =
    on_ok_weaker c.more_transitions.result
    (λ e. e ∙ transitions-first c.args.self.now c.args.word c.args.transitions.now c.first-item.result _ _ c.in-len1-up.len_at_least c.first-item.is
    c.in_ok-word-in-len1-up.ensures c.in_ok-transition-in-len1-up.ensures)
    c.more_transitions.ensures
