use Rattle.std.proofs.Common.{rules, ◌≡◌, ◌<◌, ◌≤◌, get_or, length}
use Rattle.std.specs.Prelude.{IfErr, slice_get, Some}
use Rattle.hp_flat.specs.declared.node.Variable.{Variable}
use Rattle.hp_controller.specs.declared.decoding.Control.{Control}
use Rattle.hp_controlled.specs.Choosing.{IsControl}
use Rattle.hp_controlled.specs.Lacking.{SaysNotBuilt}
use Rattle.hp_controlled.proofs.ChoosingLaws.{controls-next, controls-end, controls-none, says_more}
use Rattle.hp_controlled.proofs.node.controls.Goals as goal

pub returns-in_err-add_control-clause-none : goal.returns-in_err-add_control-clause-none
returns-in_err-add_control-clause-none c =
    let types = c.args.types.now in
    let vs = c.args.variables.now in
    let ws = c.args.widths.now in
    let below : c.loop-i.i < length ws = search rules in
    let said : IfErr c.from_residual.result (SaysNotBuilt ((v : Variable) (k : Control) → slice_get vs c.loop-i.i ≡ Some v → IsControl types v (get_or ws c.loop-i.i 0) k → ⊥)) = search rules in
    says_more c.from_residual.result _ _ (λ none. controls-none types vs ws c.loop-i.i below none) said

pub loop-i-preserved : goal.loop-i-preserved
loop-i-preserved c =
    let below : c.loop-i.i < length c.args.widths.now = search rules in
    controls-next c.args.types.now c.args.variables.now c.args.widths.now c.loop-i.i c.loop-i.controls.items c.add_control.new.controls.items c.loop-i.invariant below c.in_ok-add_control.ensures.added

pub returns-clause-controls : goal.returns-clause-controls
returns-clause-controls c =
    let past : length c.args.widths.now ≤ c.loop-i.i = search rules in
    controls-end c.args.types.now c.args.variables.now c.args.widths.now c.loop-i.i c.loop-i.controls.items c.loop-i.invariant past
