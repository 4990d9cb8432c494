use Rattle.std.proofs.Common.{rules, ◌≡◌, ◌⊎◌, inl, inr, sym, ◌∙◌}
use Rattle.std.specs.Prelude.{IfErr}
use Rattle.std.proofs.lemmas.Result.{IfErr-weaker}
use Rattle.hp_abstract.specs.declared.abstracted.Abstraction.{Abstraction}
use Rattle.hp_abstract.specs.declared.error.AbsErr.{AbsErr}
use Rattle.hp_abstract.specs.declared.error.AbsErr.TheVariants as abstract
use Rattle.hp_abstract.specs.Abstractions.{IsAbstractionOf}
use Rattle.hp_abstract.specs.Machines.{IsRefused}
use Rattle.hp_watch.specs.Watching.{observers_seen}
use Rattle.hp_controlled.specs.Lacking.{IsForced, IsLong, LacksNodes, SaysNotBuilt}
use Rattle.hp_controlled.specs.Lacking.LacksNodes.{refused, forced, long_machine, chooses_not}
use Rattle.hp_controlled.proofs.ChoosingLaws.{says_more}
use Rattle.hp_controlled.proofs.node.contract_nodes.Goals as goal

pub returns-in_err-abstraction-clause-lacking : goal.returns-in_err-abstraction-clause-lacking
returns-in_err-abstraction-clause-lacking c =
    let said : IfErr c.from_residual.result (SaysNotBuilt ((e : AbsErr) × IsRefused c.args.context.program.now c.args.node.now e × (e ≡ abstract.OutOfMemory → ⊥))) = search rules in
    says_more c.from_residual.result _ _ (λ says. refused says.0 says.1 says.2) said

pub returns-in_err-controller-clause-lacking : goal.returns-in_err-controller-clause-lacking
returns-in_err-controller-clause-lacking c =
    let a = c.in_ok-abstraction.abstraction in
    let said : IfErr c.from_residual-in_err-controller.result (SaysNotBuilt (IsForced a.machine ⊎ IsLong a.machine.name)) = search rules in
    says_more c.from_residual-in_err-controller.result _ _ (λ says. lost a c.in_ok-abstraction.ensures.abstracted says) said
  where
    lost : (a : Abstraction) → IsAbstractionOf c.args.context.program.now c.args.node.now a → IsForced a.machine ⊎ IsLong a.machine.name
        → LacksNodes c.args.context.program.now c.args.context.types.now (observers_seen c.args.context.observers.now) c.args.node.now c.args.flat
    lost a is (inl f) = forced a is f
    lost a is (inr l) = long_machine a is l

pub returns-in_err-own-clause-lacking : goal.returns-in_err-own-clause-lacking
returns-in_err-own-clause-lacking c =
    let error = c.in_err-own.field-0.0 in
    let told : IfErr c.from_residual-in_err-own.result (λ e. e ≡ error) = search rules in
    IfErr-weaker c.from_residual-in_err-own.result (λ e. e ≡ error) _
    (λ e same says. chooses_not c.in_ok-abstraction.abstraction c.in_ok-abstraction.ensures.abstracted (c.in_err-own.ensures.chooses_not (sym same ∙ says))) told
