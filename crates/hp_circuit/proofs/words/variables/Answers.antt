use Rattle.std.proofs.Common.{◌≡◌, ◌+◌, length, ap, arith, rules}
use Rattle.hp_circuit.specs.Adding.{row}
use Rattle.hp_circuit.specs.Wiring.{variable_gates}
use Rattle.hp_circuit.proofs.WiringLaws.{variables_made, row_made}
use Rattle.hp_circuit.proofs.WordLaws.{variables_more, row_end}
use Rattle.hp_circuit.proofs.words.variables.Goals as goal

pub loop-i-preserved : goal.loop-i-preserved
loop-i-preserved c =
    let old = c.args.gates.now.items in
    let more =
    variables_more old c.loop-i.gates.items c.put.new.gates.items c.len-start.result c.loop-i.i c.in_ok-_number._number c.args.place c.loop-i.invariant.0 c.loop-i.invariant.1 c.in_ok-_number.ensures.number c.in_ok-_number.ensures.long c.in_ok-_number.ensures.adds in
    (more.0, more.1, variables_made old c.loop-i.gates.items c.put.new.gates.items c.loop-i.i c.in_ok-_number._number c.args.place c.loop-i.invariant.2 c.in_ok-_number.ensures.made)

pub returns-clause-adds : goal.returns-clause-adds
returns-clause-adds c =
    let e : c.loop-i.i ≡ c.args.width = omega arith in
    row_end (c.args.place + c.loop-i.i) (c.args.place + c.args.width) c.args.gates.now.items c.loop-i.gates.items c.len-start.result c.loop-i.i c.args.width (λ v. row v c.args.place c.loop-i.i) (λ v. row v c.args.place c.args.width) (omega (arith, e)) e (λ v. ap (row v c.args.place) e) c.loop-i.invariant.0

pub returns-clause-made : goal.returns-clause-made
returns-clause-made c =
    let e : c.loop-i.i ≡ c.args.width = omega arith in
    let start : c.len-start.result ≡ length c.args.gates.now.items = search rules in
    row_made c.args.gates.now.items c.loop-i.gates.items (variable_gates c.args.place c.loop-i.i) (variable_gates c.args.place c.args.width) c.len-start.result c.loop-i.invariant.2 (ap (variable_gates c.args.place) e) start
