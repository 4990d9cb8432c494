use Rattle.std.proofs.Common.{rules, ◌≡◌, ◌∷◌, length, arith}
use Rattle.std.specs.Vec.Iter.{into_iter_items}
use Rattle.hp_watch.specs.Watching.{observers_seen}
use Rattle.hp_controlled.proofs.ChoosingLaws.{says_more}
use Rattle.hp_controlled.proofs.CompiledLaws.{lacks_all, lacks_here, nothing_left}
use Rattle.hp_controlled.proofs.machines.add_next.Goals as goal

pub returns-in-None-clause-lacking : goal.returns-in-None-clause-lacking
returns-in-None-clause-lacking c =
    let waiting = into_iter_items c.args.flats.now in
    let left = into_iter_items c.next.new.self in
    let none : length left ≡ 0 = omega (arith, c.in-None.ensures.cases.1, c.next.new.self.rest.ok.0) in
    λ _ items. lacks_all c.args.context.program.now c.args.context.types.now (observers_seen c.args.context.observers.now) c.args.node.now waiting (nothing_left waiting left c.in-None.ensures.items none) items

pub returns-in-Some-clause-lacking : goal.returns-in-Some-clause-lacking
returns-in-Some-clause-lacking c =
    let first : into_iter_items c.args.flats.now ≡ c.in-Some.flat ∷ into_iter_items c.next.new.self = search rules in
    says_more c.add_machines.result _ _
    (λ lacks items. lacks_here c.args.context.program.now c.args.context.types.now (observers_seen c.args.context.observers.now) c.args.node.now c.in-Some.flat (into_iter_items c.args.flats.now) (into_iter_items c.next.new.self) first lacks items)
    c.add_machines.ensures.lacking
