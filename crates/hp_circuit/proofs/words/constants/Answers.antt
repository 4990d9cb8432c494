use Rattle.std.proofs.Common.{◌≡◌, ◌<◌, length, take, ap, arith, rules}
use Rattle.std.proofs.lemmas.List.{take_all}
use Rattle.hp_circuit.specs.Wiring.{constant_gates}
use Rattle.hp_circuit.proofs.WiringLaws.{constants_made, row_made}
use Rattle.hp_circuit.proofs.WordLaws.{constants_more, row_end}
use Rattle.hp_circuit.proofs.words.constants.Goals as goal

pub loop-i-preserved : goal.loop-i-preserved
loop-i-preserved c =
    let old = c.args.gates.now.items in
    let bits = c.args.bits.now in
    let l : c.loop-i.i < length bits = search rules in
    let more =
    constants_more old c.loop-i.gates.items c.put.new.gates.items c.len-start.result c.loop-i.i c.in_ok-_number._number bits l c.loop-i.invariant.0 c.loop-i.invariant.1 c.in_ok-_number.ensures.number c.in_ok-_number.ensures.long c.in_ok-_number.ensures.adds in
    (more.0, more.1, constants_made old c.loop-i.gates.items c.put.new.gates.items c.loop-i.i c.in_ok-_number._number bits l c.loop-i.invariant.2 c.in_ok-_number.ensures.made)

pub returns-clause-adds : goal.returns-clause-adds
returns-clause-adds c =
    let e : c.loop-i.i ≡ length c.args.bits.now = search rules in
    row_end 0 0 c.args.gates.now.items c.loop-i.gates.items c.len-start.result c.loop-i.i (length c.args.bits.now) (λ v. take c.loop-i.i c.args.bits.now) (λ v. c.args.bits.now) (omega arith) e (λ v. take_all c.loop-i.i c.args.bits.now (omega (arith, e))) c.loop-i.invariant.0

pub returns-clause-made : goal.returns-clause-made
returns-clause-made c =
    let e : c.loop-i.i ≡ length c.args.bits.now = search rules in
    let start : c.len-start.result ≡ length c.args.gates.now.items = search rules in
    row_made c.args.gates.now.items c.loop-i.gates.items (constant_gates (take c.loop-i.i c.args.bits.now)) (constant_gates c.args.bits.now) c.len-start.result c.loop-i.invariant.2
    (ap constant_gates (take_all c.loop-i.i c.args.bits.now (omega (arith, e)))) start
