use Rattle.std.proofs.Common.{◌≡◌, ap, ◌∙◌}
use Rattle.hp_obc.specs.Machines.{Machine}
use Rattle.hp_form.proofs.EachLaws.{refuted}
use Rattle.hp_form.proofs.ScopeLaws.{call_form, call_args, call_outs}
use Rattle.hp_form.proofs.command.fits_callee.Goals as goal

pub returns-then-not-args_agree : goal.returns-then-not-args_agree
returns-then-not-args_agree c =
    let s = c.args.names.now in
    let inputs : c.deref.result.now ≡ c.args.callee.now.inputs = c.deref.ensures.value ∙ ap (λ (m : Machine). m.inputs) c.callee.view_is in
    ((λ e. absurd cc), (λ h. absurd (refuted c.args_agree.ensures c.if-not-args_agree.true (call_args s.types.now.declared.now s.machine.now c.args.callee.now c.args.outs.now c.args.args.now c.deref.result.now inputs h))))

pub returns-then-not-outs_agree : goal.returns-then-not-outs_agree
returns-then-not-outs_agree c =
    let s = c.args.names.now in
    let outputs : c.deref-2.result.now ≡ c.args.callee.now.outputs = c.deref-2.ensures.value ∙ ap (λ (m : Machine). m.outputs) c.callee.view_is in
    ((λ e. absurd cc), (λ h. absurd (refuted c.outs_agree.ensures c.if-not-outs_agree.true (call_outs s.types.now.declared.now s.machine.now c.args.callee.now c.args.outs.now c.args.args.now c.deref-2.result.now outputs h))))

pub returns : goal.returns
returns c =
    let s = c.args.names.now in
    let inputs : c.deref.result.now ≡ c.args.callee.now.inputs = c.deref.ensures.value ∙ ap (λ (m : Machine). m.inputs) c.callee.view_is in
    let outputs : c.deref-2.result.now ≡ c.args.callee.now.outputs = c.deref-2.ensures.value ∙ ap (λ (m : Machine). m.outputs) c.callee.view_is in (
      (λ e. call_form s.types.now.declared.now s.machine.now c.args.callee.now c.args.outs.now c.args.args.now c.deref.result.now c.deref-2.result.now inputs outputs (c.args_agree.ensures.0 c.if-not-args_agree.false)
          (c.outs_agree.ensures.0 c.if-not-outs_agree.false) (c.in_ok-apart.ensures.0 e)),
      (λ h. c.in_ok-apart.ensures.1 h.once),
    )
