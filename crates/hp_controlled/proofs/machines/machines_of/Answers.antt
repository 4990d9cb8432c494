use Rattle.std.proofs.Common.{rules, ◌≡◌, ◌<◌, ◌≤◌, ◌∷◌, List, get_or, length}
use Rattle.std.specs.Prelude.{IfErr}
use Rattle.std.specs.Vec.Iter.{into_iter_items}
use Rattle.hp_tree.specs.declared.program.Item.{Item}
use Rattle.hp_watch.specs.Watching.{observers_seen}
use Rattle.hp_controlled.specs.Lacking.{OneLacksMachines, SaysNotBuilt}
use Rattle.hp_controlled.proofs.ChoosingLaws.{says_more}
use Rattle.hp_controlled.proofs.CompiledLaws.{all_put, lacks_now, next_lacks, next_machines}
use Rattle.hp_controlled.proofs.machines.machines_of.Goals as goal

pub loop-item-preserved : goal.loop-item-preserved
loop-item-preserved c =
    let program = c.args.context.program.now in
    let types = c.args.context.types.now in
    let observers = observers_seen c.args.context.observers.now in
    let items = c.args.items.now in
    let item = c.item-item.result in
    let waiting = into_iter_items c.loop-item.waiting in
    let left = into_iter_items c.add_item.new.flats in
    let so_far = c.loop-item.invariant in
    let below : c.loop-item.item-index < length items = search rules in
    let is : item ≡ get_or items c.loop-item.item-index item = search rules in (
      next_machines program types observers items c.args.flats.items c.loop-item.item-index item waiting left c.loop-item.machines.items c.add_item.new.machines.items so_far.0 below is c.in_ok-add_item.ensures.added,
      next_lacks program types observers items c.args.flats.items c.loop-item.item-index item waiting left so_far.1 below is c.in_ok-add_item.ensures.behind,
    )

pub returns-clause-machines : goal.returns-clause-machines
returns-clause-machines c =
    let so_far = c.loop-item.invariant in
    let past : length c.args.items.now ≤ c.loop-item.item-index = search rules in
    all_put c.args.context.program.now c.args.context.types.now (observers_seen c.args.context.observers.now) c.args.items.now c.args.flats.items c.loop-item.item-index (into_iter_items c.loop-item.waiting) c.loop-item.machines.items so_far.0 past

pub returns-in_err-add_item-clause-lacking : goal.returns-in_err-add_item-clause-lacking
returns-in_err-add_item-clause-lacking c =
    let program = c.args.context.program.now in
    let types = c.args.context.types.now in
    let observers = observers_seen c.args.context.observers.now in
    let waiting = into_iter_items c.loop-item.waiting in
    let so_far = c.loop-item.invariant in
    let item = c.item-item.result in
    let below : c.loop-item.item-index < length c.args.items.now = search rules in
    let is : item ≡ get_or c.args.items.now c.loop-item.item-index item = search rules in
    let said : IfErr c.from_residual.result (SaysNotBuilt ((items : List Item) → OneLacksMachines program types observers (item ∷ items) waiting)) = search rules in
    says_more c.from_residual.result _ _ (λ lacks. lacks_now program types observers c.args.items.now c.args.flats.items c.loop-item.item-index item waiting so_far.1 below is lacks) said
