use Rattle.std.proofs.Common.{◌+◌, ◌++◌, drop, ap, sym, ◌∙◌}
use Rattle.hp_obctext.specs.Found.{var_entries}
use Rattle.hp_base.specs.Known.Known.{lookup}
use Rattle.hp_obctext.proofs.LookupLaws.{next_entry, all_added}
use Rattle.hp_obctext.proofs.Writing.{drop-next, drop-end}
use Rattle.hp_obctext.proofs.scope.add_vars.Goals as goal

pub loop-var-preserved : goal.loop-var-preserved
loop-var-preserved c = λ x.
    let i = c.loop-var.var-index in
    next_entry c.loop-var.known c.add.new.self (var_entries (drop (i + 1) c.args.vars.now)) c.var-item.result.name c.var-item.result.ty c.in_ok-add.ensures x
    ∙ ap (λ rest. lookup (c.loop-var.known ++ var_entries (rest)) x) (sym (drop-next c.args.vars.now i c.var-item.result c.loop-var-test.true c.var-item.is))
    ∙ c.loop-var.invariant x

pub returns : goal.returns
returns c = λ x.
    all_added c.loop-var.known (var_entries (drop c.loop-var.var-index c.args.vars.now)) (ap (λ rest. var_entries (rest)) (drop-end c.args.vars.now c.loop-var.var-index c.loop-var-test.false)) x
    ∙ c.loop-var.invariant x
