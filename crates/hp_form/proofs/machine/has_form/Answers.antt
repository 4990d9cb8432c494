use Rattle.std.proofs.Common.{◌≡◌, true, false, ap, sym, ◌∙◌}
use Rattle.std.specs.Prelude.{not, is_some}
use Rattle.std.specs.Bool.{Decides}
use Rattle.hp_obc.specs.Machines.{Machine}
use Rattle.hp_obc.specs.Form.{is_name, has_name}
use Rattle.hp_form.specs.Declaring.{keys, StepForm}
use Rattle.hp_form.specs.Scopes.{IsScopeOf}
use Rattle.hp_form.proofs.EachLaws.{refuted}
use Rattle.hp_form.proofs.FormLaws.{machine_form, machine_new, machine_declared, machine_step, if_some, step_moved, none_not, off}
use Rattle.hp_form.proofs.machine.has_form.Goals as goal

pub returns-then-not-is_fresh : goal.returns-then-not-is_fresh
returns-then-not-is_fresh c =
    let m = c.args.machine.now in
    let types = c.args.types.now.declared.now in
    let old : not (has_name (keys c.args.known.now) c.args.machine.now.name) ≡ false = ap (λ (m : Machine). not (has_name (keys c.args.known.now) m.name)) (sym c.machine.view_is) ∙ sym c.if-not-is_fresh.ensures in
    ((λ e. absurd cc), (λ f. let new : has_name (keys c.args.known.now) c.args.machine.now.name ≡ false = machine_new types c.args.earlier.now c.args.known.now m c.requires f in let k : not (has_name (keys c.args.known.now) c.args.machine.now.name) ≡ true = ap not new in sym old ∙ k))

pub returns-in_default : goal.returns-in_default
returns-in_default c =
    ((λ e. absurd cc), (λ f. absurd (refuted c.in_ok-names.ensures.form (none_not c.in_ok-names.field-0 c.in_default.not-Some) (machine_declared c.args.types.now.declared.now c.args.earlier.now c.args.machine.now f))))

pub returns : goal.returns
returns c =
    let m = c.args.machine.now in
    let types = c.args.types.now.declared.now in
    let name : is_name c.args.machine.now.name ≡ true = ap (λ (m : Machine). is_name m.name) (sym c.machine.view_is) ∙ sym c.if-not-is_name.ensures in
    let new : has_name (keys c.args.known.now) c.args.machine.now.name ≡ false =
    off (has_name (keys c.args.known.now) c.args.machine.now.name) (ap (λ (m : Machine). not (has_name (keys c.args.known.now) m.name)) (sym c.machine.view_is) ∙ sym c.if-not-is_fresh.ensures) in
    let of : IsScopeOf c.in-Some.names types c.args.earlier.now c.args.machine.now = if_some (λ s. IsScopeOf s types c.args.earlier.now c.args.machine.now) c.in_ok-names.field-0 c.in-Some.names c.in-Some.is c.in_ok-names.ensures.of in
    let step : Decides c.in_ok-held.held (StepForm types c.args.earlier.now c.args.machine.now) = step_moved c.in-Some.names types c.args.earlier.now m c.in_ok-held.held of c.in_ok-held.ensures in (
      (λ e. machine_form types c.args.earlier.now c.args.known.now m c.requires name new (c.in_ok-names.ensures.form.0 (ap is_some c.in-Some.is)) (step.0 e)),
      (λ f. step.1 (machine_step types c.args.earlier.now m f)),
    )
