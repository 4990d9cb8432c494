use Rattle.std.proofs.Common.{ap, ◌∙◌, slice_index_or, None}
use Rattle.hp_quant.proofs.Copied.{IsSwept-from_moved}
use Rattle.hp_quant.proofs.sweeping.sweep.Goals as goal

pub returns-clause-ok : goal.returns-clause-ok
returns-clause-ok c =
    let e = c.in_ok-table.ensures in
    IsSwept-from_moved c.args.t.now c.in_ok-table.field-0.table c.args.roots.now c.write_roots.new.roots c.in_ok-table.field-0.moved.items e.moved e.keys
    (λ key. c.write_roots.ensures key ∙ ap (λ xs. slice_index_or xs key None) c.deref.ensures.value)
