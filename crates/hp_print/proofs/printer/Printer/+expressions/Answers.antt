use Rattle.std.proofs.Common.{◌∙◌}
use Rattle.std.proofs.lemmas.Result.{on_ok_weaker}
use Rattle.hp_print.proofs.FirstLaws.{arguments-first, arguments-none}
use Rattle.hp_print.proofs.printer.Printer.+expressions.Goals as goal

pub arguments-returns-in-empty : goal.arguments-returns-in-empty
arguments-returns-in-empty t c = arguments-none c.args.self.now c.args.args.now c.in-empty.len_below

pub arguments-returns-in_ok-expression-in-len1-up : goal.arguments-returns-in_ok-expression-in-len1-up
arguments-returns-in_ok-expression-in-len1-up t c =
    on_ok_weaker c.more_arguments.result
    (λ e. e ∙ arguments-first c.args.self.now c.args.args.now c.first-item.result _ c.in-len1-up.len_at_least c.first-item.is c.in_ok-expression-in-len1-up.ensures)
    c.more_arguments.ensures
