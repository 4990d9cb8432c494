use Rattle.std.proofs.Common.{◌+◌, ◌++◌, drop, ap, sym, ◌∙◌}
use Rattle.hp_obc.specs.Form.{mem_vars}
use Rattle.hp_obctext.specs.Found.{var_entries}
use Rattle.hp_base.specs.Known.Known.{lookup}
use Rattle.hp_obctext.proofs.LookupLaws.{next_entry, all_added}
use Rattle.hp_obctext.proofs.Writing.{drop-next, drop-end}
use Rattle.hp_obctext.proofs.scope.add_mems.Goals as goal

pub loop-mem-preserved : goal.loop-mem-preserved
loop-mem-preserved c = λ x.
    let i = c.loop-mem.mem-index in
    next_entry c.loop-mem.known c.add.new.self (var_entries (mem_vars (drop (i + 1) c.args.mems.now))) c.mem-item.result.name c.mem-item.result.ty c.in_ok-add.ensures x
    ∙ ap (λ rest. lookup (c.loop-mem.known ++ var_entries (mem_vars (rest))) x) (sym (drop-next c.args.mems.now i c.mem-item.result c.loop-mem-test.true c.mem-item.is))
    ∙ c.loop-mem.invariant x

pub returns : goal.returns
returns c = λ x.
    all_added c.loop-mem.known (var_entries (mem_vars (drop c.loop-mem.mem-index c.args.mems.now))) (ap (λ rest. var_entries (mem_vars (rest))) (drop-end c.args.mems.now c.loop-mem.mem-index c.loop-mem-test.false)) x
    ∙ c.loop-mem.invariant x
