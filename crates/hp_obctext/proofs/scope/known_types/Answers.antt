use Rattle.std.proofs.Common.{◌+◌, ◌++◌, drop, ap, sym, ◌∙◌}
use Rattle.hp_obc.specs.Machines.{ObcType}
use Rattle.hp_obctext.specs.Found.{type_entries}
use Rattle.hp_base.specs.Known.Known.{lookup, with_entry}
use Rattle.hp_obctext.proofs.LookupLaws.{next_entry, all_added}
use Rattle.hp_obctext.proofs.Writing.{drop-next, drop-end}
use Rattle.hp_obctext.proofs.scope.known_types.Goals as goal

pub loop-ty-preserved : goal.loop-ty-preserved
loop-ty-preserved c = λ x.
    let i = c.loop-ty.ty-index in
    next_entry c.loop-ty.known c.add.new.self (type_entries (drop (i + 1) c.args.types.now)) c.ty-item.result.name c.ty-item.result
    (c.in_ok-add.ensures ∙ ap (λ (t : ObcType). with_entry c.loop-ty.known t.name c.ty-item.result) c.ty.view_is) x
    ∙ ap (λ rest. lookup (c.loop-ty.known ++ type_entries rest) x) (sym (drop-next c.args.types.now i c.ty-item.result c.loop-ty-test.true c.ty-item.is))
    ∙ c.loop-ty.invariant x

pub returns : goal.returns
returns c = λ x.
    all_added c.loop-ty.known (type_entries (drop c.loop-ty.ty-index c.args.types.now)) (ap type_entries (drop-end c.args.types.now c.loop-ty.ty-index c.loop-ty-test.false)) x
    ∙ c.loop-ty.invariant x
