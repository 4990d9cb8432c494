use Rattle.std.proofs.Common.{rules, ◌≡◌}
use Rattle.std.specs.Prelude.{IfErr}
use Rattle.hp_watch.specs.Watching.{observers_seen}
use Rattle.hp_controlled.specs.Lacking.{LacksObservers, OneLacksMachines, SaysNotBuilt}
use Rattle.hp_controlled.specs.Lacking.LacksCompiled.{no_observers}
use Rattle.hp_controlled.proofs.ChoosingLaws.{says_more}
use Rattle.hp_controlled.proofs.CompiledLaws.{one_of_all}
use Rattle.hp_controlled.proofs.machines.chosen_machines.Goals as goal

pub returns-in_err-observers-clause-lacking : goal.returns-in_err-observers-clause-lacking
returns-in_err-observers-clause-lacking c =
    let said : IfErr c.from_residual-in_err-observers.result (SaysNotBuilt (LacksObservers c.args.program.now)) = search rules in
    says_more c.from_residual-in_err-observers.result _ _ (λ lacks. no_observers lacks) said

pub returns-in_err-machines-clause-lacking : goal.returns-in_err-machines-clause-lacking
returns-in_err-machines-clause-lacking c =
    let k = c.new-context.result in
    let same : c.deref.result.now ≡ c.args.program.now = search rules in
    let said : IfErr c.from_residual-in_err-machines.result (SaysNotBuilt (OneLacksMachines k.program.now k.types.now (observers_seen k.observers.now) c.deref.result.now c.in_ok-flats.flats.items)) = search rules in
    says_more c.from_residual-in_err-machines.result _ _
    (λ lacks. one_of_all c.args.program.now k.program.now c.deref.result.now c.args.types.now k.types.now (observers_seen c.in_ok-observers.observers) (observers_seen k.observers.now) c.in_ok-flats.flats.items c.new-context.ensures.program c.new-context.ensures.types c.new-context.ensures.observers same
    c.in_ok-flats.ensures.equations c.in_ok-observers.ensures.observed lacks) said
