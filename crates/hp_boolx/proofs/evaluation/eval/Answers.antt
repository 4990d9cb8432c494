use Rattle.std.proofs.Common.{◌≡◌, ◌<◌, length, take, get_or, sym, subst, rules}
use Rattle.hp_boolx.specs.Machine.{IsMachine, GateFits, variables}
use Rattle.hp_boolx.proofs.GateLaws.{fits-next, values-next}
use Rattle.hp_boolx.proofs.evaluation.eval.Goals as goal

pub gate_value-value-requires : goal.gate_value-value-requires
gate_value-value-requires c =
    let m = c.args.m.now in
    let i = c.loop-i.i in
    let kept : IsMachine m = subst IsMachine c.m.view_is c.m.invariant in
    let is : c.index.result.now ≡ get_or m.gates i c.index.result.now = search rules in
    let at : length (take i c.loop-i.into) ≡ i = search rules in
    let within : i < length m.gates = search rules in
    subst (λ vars. GateFits vars (length (take i c.loop-i.into)) c.index.result.now) (sym c.requires.vars) (fits-next (variables m) (length (take i c.loop-i.into)) m.gates i c.index.result.now kept.gates within at is)

pub loop-i-preserved : goal.loop-i-preserved
loop-i-preserved c =
    let m = c.args.m.now in
    let i = c.loop-i.i in
    let is : c.index.result.now ≡ get_or m.gates i c.index.result.now = search rules in
    let within : i < length m.gates = search rules in
    (search rules, values-next c.args.vars.now c.loop-i.into m.gates i c.index.result.now c.gate_value-value.result within c.loop-i.invariant.0 is c.loop-i.invariant.1 c.gate_value-value.ensures)
