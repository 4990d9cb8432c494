use Rattle.std.proofs.Common.{◌≡◌, ◌++◌, [], ap, ◌∙◌}
use Rattle.std.specs.Prelude.{Ok}
use Rattle.hp_obc.specs.Machines.{Machine}
use Rattle.hp_obc.specs.Steps.{var_names}
use Rattle.hp_form.specs.Declaring.{keys}
use Rattle.hp_form.specs.Scoping.{var_entries}
use Rattle.hp_form.proofs.EachLaws.{refuted}
use Rattle.hp_form.proofs.MachineLaws.{vars_moved, mems_moved, first_entries, more_entries, all_entries, olds_first, olds_more, olds_all}
use Rattle.hp_form.proofs.declare.add_names.Goals as goal

pub returns-then-not-branch-2-clause-form : goal.returns-then-not-branch-2-clause-form
returns-then-not-branch-2-clause-form c =
    let m = c.args.machine.now in
    let types = c.args.types.now.declared.now in
    let inputs : c.add_vars.new.known ≡ var_entries c.args.machine.now.inputs =
    first_entries c.args.inputs.now c.add_vars.new.known c.deref.result.now m.inputs c.requires.inputs (c.deref.ensures.value ∙ ap (λ (m : Machine). m.inputs) c.machine.view_is) (c.in_ok-add_vars.ensures.added (ap Ok c.if-not-branch.false)) in
    let olds : keys c.add_vars.new.known ++ keys c.args.targets.now ≡ var_names c.args.machine.now.inputs = olds_first c.add_vars.new.known c.args.targets.now m.inputs inputs c.requires.targets in
    let moved = vars_moved types (keys c.add_vars.new.known ++ keys c.args.targets.now) (var_names m.inputs) c.deref-2.result.now m.outputs olds (c.deref-2.ensures.value ∙ ap (λ (m : Machine). m.outputs) c.machine.view_is) in
    ((λ e. absurd cc), (λ f. absurd (refuted c.in_ok-add_vars-2.ensures.form c.if-not-branch-2.true (moved.1 f.outputs))))

pub returns-then-not-branch-3-clause-form : goal.returns-then-not-branch-3-clause-form
returns-then-not-branch-3-clause-form c =
    let m = c.args.machine.now in
    let types = c.args.types.now.declared.now in
    let inputs : c.add_vars.new.known ≡ var_entries c.args.machine.now.inputs =
    first_entries c.args.inputs.now c.add_vars.new.known c.deref.result.now m.inputs c.requires.inputs (c.deref.ensures.value ∙ ap (λ (m : Machine). m.inputs) c.machine.view_is) (c.in_ok-add_vars.ensures.added (ap Ok c.if-not-branch.false)) in
    let outputs : c.add_vars-2.new.known ≡ var_entries c.args.machine.now.outputs =
    first_entries c.args.targets.now c.add_vars-2.new.known c.deref-2.result.now m.outputs c.requires.targets (c.deref-2.ensures.value ∙ ap (λ (m : Machine). m.outputs) c.machine.view_is) (c.in_ok-add_vars-2.ensures.added (ap Ok c.if-not-branch-2.false)) in
    let olds : keys c.add_vars.new.known ++ keys c.add_vars-2.new.known ≡ var_names c.args.machine.now.inputs ++ var_names c.args.machine.now.outputs = olds_more c.add_vars.new.known c.add_vars-2.new.known m.inputs m.outputs inputs outputs in
    let moved = vars_moved types (keys c.add_vars.new.known ++ keys c.add_vars-2.new.known) (var_names m.inputs ++ var_names m.outputs) c.deref-3.result.now m.vars olds (c.deref-3.ensures.value ∙ ap (λ (m : Machine). m.vars) c.machine.view_is) in
    ((λ e. absurd cc), (λ f. absurd (refuted c.in_ok-add_vars-3.ensures.form c.if-not-branch-3.true (moved.1 f.vars))))

pub returns-clause-form : goal.returns-clause-form
returns-clause-form c =
    let m = c.args.machine.now in
    let types = c.args.types.now.declared.now in
    let view = c.machine.view_is in
    let d1 = c.deref.ensures.value ∙ ap (λ (m : Machine). m.inputs) c.machine.view_is in
    let d2 = c.deref-2.ensures.value ∙ ap (λ (m : Machine). m.outputs) c.machine.view_is in
    let d3 = c.deref-3.ensures.value ∙ ap (λ (m : Machine). m.vars) c.machine.view_is in
    let d4 = c.deref-4.ensures.value ∙ ap (λ (m : Machine). m.mems) c.machine.view_is in
    let inputs = first_entries c.args.inputs.now c.add_vars.new.known c.deref.result.now m.inputs c.requires.inputs d1 (c.in_ok-add_vars.ensures.added (ap Ok c.if-not-branch.false)) in
    let outputs = first_entries c.args.targets.now c.add_vars-2.new.known c.deref-2.result.now m.outputs c.requires.targets d2 (c.in_ok-add_vars-2.ensures.added (ap Ok c.if-not-branch-2.false)) in
    let vars = more_entries c.add_vars-2.new.known c.add_vars-3.new.known m.outputs c.deref-3.result.now m.vars outputs d3 (c.in_ok-add_vars-3.ensures.added (ap Ok c.if-not-branch-3.false)) in
    let none : keys c.args.targets.now ++ keys c.args.inputs.now ≡ [] = λ i. keys (c.requires.targets i) ++ keys (c.requires.inputs i) in
    let m1 = vars_moved types (keys c.args.targets.now ++ keys c.args.inputs.now) [] c.deref.result.now m.inputs none d1 in
    let m2 = vars_moved types (keys c.add_vars.new.known ++ keys c.args.targets.now) (var_names m.inputs) c.deref-2.result.now m.outputs (olds_first c.add_vars.new.known c.args.targets.now m.inputs inputs c.requires.targets) d2 in
    let m3 = vars_moved types (keys c.add_vars.new.known ++ keys c.add_vars-2.new.known) (var_names m.inputs ++ var_names m.outputs) c.deref-3.result.now m.vars (olds_more c.add_vars.new.known c.add_vars-2.new.known m.inputs m.outputs inputs outputs) d3 in
    let m4 = mems_moved types (keys c.add_vars.new.known ++ keys c.add_vars-3.new.known) (var_names m.inputs ++ (var_names m.outputs ++ var_names m.vars)) c.deref-4.result.now m.mems
    (olds_all c.add_vars.new.known c.add_vars-3.new.known m.inputs m.outputs m.vars inputs vars) d4 in (
      (λ e. record {
        inputs = m1.0 (c.in_ok-add_vars.ensures.form.0 c.if-not-branch.false);
        outputs = m2.0 (c.in_ok-add_vars-2.ensures.form.0 c.if-not-branch-2.false);
        vars = m3.0 (c.in_ok-add_vars-3.ensures.form.0 c.if-not-branch-3.false);
        mems = m4.0 (c.in_ok-held.ensures.form.0 e);
      }),
      (λ f. c.in_ok-held.ensures.form.1 (m4.1 f.mems)),
    )

pub returns-clause-targets : goal.returns-clause-targets
returns-clause-targets c =
    let m = c.args.machine.now in
    let d2 = c.deref-2.ensures.value ∙ ap (λ (m : Machine). m.outputs) c.machine.view_is in
    let d3 = c.deref-3.ensures.value ∙ ap (λ (m : Machine). m.vars) c.machine.view_is in
    let d4 = c.deref-4.ensures.value ∙ ap (λ (m : Machine). m.mems) c.machine.view_is in
    let outputs = first_entries c.args.targets.now c.add_vars-2.new.known c.deref-2.result.now m.outputs c.requires.targets d2 (c.in_ok-add_vars-2.ensures.added (ap Ok c.if-not-branch-2.false)) in
    let vars = more_entries c.add_vars-2.new.known c.add_vars-3.new.known m.outputs c.deref-3.result.now m.vars outputs d3 (c.in_ok-add_vars-3.ensures.added (ap Ok c.if-not-branch-3.false)) in
    λ e. all_entries c.add_vars-3.new.known c.add_mems.new.known (m.outputs ++ m.vars) c.deref-4.result.now m.mems vars d4 (c.in_ok-held.ensures.added e)
