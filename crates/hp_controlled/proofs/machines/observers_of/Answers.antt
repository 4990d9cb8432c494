use Rattle.std.proofs.Common.{rules, ◌≡◌, ◌<◌, ◌∷◌, List, get_or, length}
use Rattle.std.specs.Prelude.{IfErr}
use Rattle.std.specs.Vec.Iter.{into_iter_items}
use Rattle.hp_tree.specs.declared.program.Item.{Item}
use Rattle.hp_controlled.specs.Compiled.{contracts_of}
use Rattle.hp_controlled.specs.Lacking.{FitContracts, SaysNotBuilt}
use Rattle.hp_controlled.proofs.ChoosingLaws.{says_more}
use Rattle.hp_controlled.proofs.CompiledLaws.{fits-now}
use Rattle.hp_controlled.proofs.machines.observers_of.Goals as goal

pub returns-in_err-observe-clause-unfitting : goal.returns-in_err-observe-clause-unfitting
returns-in_err-observe-clause-unfitting c =
    let items = c.args.items.now in
    let item = c.item-item.result in
    let waiting = into_iter_items c.loop-item.waiting in
    let so_far = c.loop-item.invariant in
    let below : c.loop-item.item-index < length items = search rules in
    let is : item ≡ get_or items c.loop-item.item-index item = search rules in
    let said : IfErr c.from_residual.result (SaysNotBuilt ((rest : List Item) → FitContracts (contracts_of (item ∷ rest)) waiting → ⊥)) = search rules in
    says_more c.from_residual.result _ _ (λ none. fits-now items c.loop-item.item-index item waiting c.args.flats.items so_far.1 below is none) said
