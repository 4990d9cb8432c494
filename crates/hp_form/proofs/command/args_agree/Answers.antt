use Rattle.hp_obc.specs.Form.{argument_kind, scope}
use Rattle.hp_form.specs.Scoping.{Agree}
use Rattle.hp_form.proofs.EachLaws.{refuted}
use Rattle.hp_form.proofs.ScopeLaws.{agree_at, agree_back, agree_next, agree_fails, agree_ends, agree_not}
use Rattle.hp_form.proofs.command.args_agree.Goals as goal

pub returns-then-args-inputs : goal.returns-then-args-inputs
returns-then-args-inputs c =
    let types = c.args.names.now.types.now.declared.now in
    agree_not (argument_kind types (scope c.args.names.now.machine.now)) types c.args.args.now c.args.inputs.now c.if-args-inputs.true

pub returns-then-not-arg_fits : goal.returns-then-not-arg_fits
returns-then-not-arg_fits c =
    let types = c.args.names.now.types.now.declared.now in
    let kind = argument_kind types (scope c.args.names.now.machine.now) in
    agree_fails kind types c.args.args.now c.args.inputs.now c.loop-i.i c.index-args-i.result c.index-inputs-i.result (Agree kind types c.args.args.now c.args.inputs.now) c.loop-i.invariant c.loop-i-test.true c.if-args-inputs.false
    (λ h. refuted c.arg_fits.ensures c.if-not-arg_fits.true (agree_back kind types c.args.args.now c.args.inputs.now c.loop-i.i c.index-args-i.result c.index-inputs-i.result c.index-args-i.is c.index-inputs-i.is h))

pub loop-i-preserved : goal.loop-i-preserved
loop-i-preserved c =
    let types = c.args.names.now.types.now.declared.now in
    let kind = argument_kind types (scope c.args.names.now.machine.now) in
    agree_next kind types c.args.args.now c.args.inputs.now c.loop-i.i c.index-args-i.result c.index-inputs-i.result (Agree kind types c.args.args.now c.args.inputs.now) c.loop-i.invariant c.loop-i-test.true c.if-args-inputs.false
    (agree_at kind types c.args.args.now c.args.inputs.now c.loop-i.i c.index-args-i.result c.index-inputs-i.result c.index-args-i.is c.index-inputs-i.is (c.arg_fits.ensures.0 c.if-not-arg_fits.false))

pub returns : goal.returns
returns c =
    let types = c.args.names.now.types.now.declared.now in
    let kind = argument_kind types (scope c.args.names.now.machine.now) in
    agree_ends kind types c.args.args.now c.args.inputs.now c.loop-i.i (Agree kind types c.args.args.now c.args.inputs.now) c.loop-i.invariant c.loop-i-test.false c.if-args-inputs.false
