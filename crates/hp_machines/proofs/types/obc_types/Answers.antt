use Rattle.std.proofs.Common.{◌≡◌, ◌+◌, ◌++◌, ◌∷◌, [], take, ap, sym, ◌∙◌, rules}
use Rattle.std.proofs.lemmas.List.{take_more}
use Rattle.law_equations.specs.Made.Types.{obc_types_of}
use Rattle.hp_machines.proofs.HeadingLaws.{obc_types_append}
use Rattle.hp_machines.proofs.types.obc_types.Goals as goal

pub loop-item-preserved : goal.loop-item-preserved
loop-item-preserved c =
    let i = c.loop-item.item-index in
    let items = c.args.items.now in
    let item = c.item-item.result in
    let more : take (i + 1) items ≡ take i items ++ item ∷ [] = take_more items i item (search rules) ∙ ap (λ y. take i items ++ y ∷ []) (sym c.item-item.is) in
    let added : c.add_type.new.types.items ≡ c.loop-item.types.items ++ obc_types_of (item ∷ []) = search rules in
    added ∙ ap (λ ts. ts ++ obc_types_of (item ∷ [])) c.loop-item.invariant ∙ sym (obc_types_append (take i items) (item ∷ [])) ∙ ap obc_types_of (sym more)
