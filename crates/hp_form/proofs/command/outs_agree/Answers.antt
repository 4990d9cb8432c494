use Rattle.hp_obc.specs.Form.{kind_in, written}
use Rattle.hp_form.specs.Scoping.{Agree}
use Rattle.hp_form.proofs.EachLaws.{refuted}
use Rattle.hp_form.proofs.ScopeLaws.{agree_at, agree_back, agree_next, agree_fails, agree_ends, agree_not}
use Rattle.hp_form.proofs.command.outs_agree.Goals as goal

pub returns-then-outs-outputs : goal.returns-then-outs-outputs
returns-then-outs-outputs c =
    let types = c.args.names.now.types.now.declared.now in
    agree_not (kind_in types (written c.args.names.now.machine.now)) types c.args.outs.now c.args.outputs.now c.if-outs-outputs.true

pub returns-then-not-out_fits : goal.returns-then-not-out_fits
returns-then-not-out_fits c =
    let types = c.args.names.now.types.now.declared.now in
    let kind = kind_in types (written c.args.names.now.machine.now) in
    agree_fails kind types c.args.outs.now c.args.outputs.now c.loop-i.i c.index-outs-i.result c.index-outputs-i.result (Agree kind types c.args.outs.now c.args.outputs.now) c.loop-i.invariant c.loop-i-test.true c.if-outs-outputs.false
    (λ h. refuted c.out_fits.ensures c.if-not-out_fits.true (agree_back kind types c.args.outs.now c.args.outputs.now c.loop-i.i c.index-outs-i.result c.index-outputs-i.result c.index-outs-i.is c.index-outputs-i.is h))

pub loop-i-preserved : goal.loop-i-preserved
loop-i-preserved c =
    let types = c.args.names.now.types.now.declared.now in
    let kind = kind_in types (written c.args.names.now.machine.now) in
    agree_next kind types c.args.outs.now c.args.outputs.now c.loop-i.i c.index-outs-i.result c.index-outputs-i.result (Agree kind types c.args.outs.now c.args.outputs.now) c.loop-i.invariant c.loop-i-test.true c.if-outs-outputs.false
    (agree_at kind types c.args.outs.now c.args.outputs.now c.loop-i.i c.index-outs-i.result c.index-outputs-i.result c.index-outs-i.is c.index-outputs-i.is (c.out_fits.ensures.0 c.if-not-out_fits.false))

pub returns : goal.returns
returns c =
    let types = c.args.names.now.types.now.declared.now in
    let kind = kind_in types (written c.args.names.now.machine.now) in
    agree_ends kind types c.args.outs.now c.args.outputs.now c.loop-i.i (Agree kind types c.args.outs.now c.args.outputs.now) c.loop-i.invariant c.loop-i-test.false c.if-outs-outputs.false
