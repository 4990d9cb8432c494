use Rattle.std.proofs.Common.{ap, refl, ◌∙◌}
use Rattle.std.specs.Prelude.{Ok}
use Rattle.hp_obc.specs.Machines.{Machine}
use Rattle.hp_form.proofs.EachLaws.{refuted}
use Rattle.hp_form.proofs.FormLaws.{insts_moved, holds_moved, declared_form, declared_insts}
use Rattle.hp_form.proofs.scope.Scope.new.Goals as goal

pub returns-then-not-branch-2-clause-form : goal.returns-then-not-branch-2-clause-form
returns-then-not-branch-2-clause-form c =
    let m = c.args.machine.now in
    let insts = c.deref.ensures.value ∙ ap (λ (m : Machine). m.insts) c.machine.view_is in (
      (λ e. absurd cc),
      (λ f. absurd (refuted c.in_ok-add_insts.ensures.form c.if-not-branch-2.true
          ((insts_moved c.args.earlier.now c.args.known.now c.deref.result.now m.insts c.requires insts).1 (declared_insts c.args.types.now.declared.now c.args.earlier.now m f)))),
    )

pub invariant_of-result : goal.invariant_of-result
invariant_of-result c =
    let m = c.args.machine.now in
    let insts = c.deref.ensures.value ∙ ap (λ (m : Machine). m.insts) c.machine.view_is in
    record {
      reads = c.in_ok-add_names.ensures.inputs (ap Ok c.if-not-branch.false);
      writes = c.in_ok-add_names.ensures.targets (ap Ok c.if-not-branch.false);
      holds = holds_moved c.args.earlier.now c.args.known.now c.add_insts.new.known c.deref.result.now m.insts c.requires insts (c.in_ok-add_insts.ensures.form.0 c.if-not-branch-2.false) (c.in_ok-add_insts.ensures.added (ap Ok c.if-not-branch-2.false));
    }

pub returns-clause-form : goal.returns-clause-form
returns-clause-form c =
    let m = c.args.machine.now in
    let insts = c.deref.ensures.value ∙ ap (λ (m : Machine). m.insts) c.machine.view_is in (
      (λ e. declared_form c.args.types.now.declared.now c.args.earlier.now m (c.in_ok-add_names.ensures.form.0 c.if-not-branch.false)
          ((insts_moved c.args.earlier.now c.args.known.now c.deref.result.now m.insts c.requires insts).0 (c.in_ok-add_insts.ensures.form.0 c.if-not-branch-2.false))),
      (λ f. refl),
    )
