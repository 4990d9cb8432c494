use Rattle.std.proofs.Common.{◌≡◌, length, ap, arith, rules}
use Rattle.hp_circuit.specs.Wiring.{choice_gates}
use Rattle.hp_circuit.proofs.WiringLaws.{choices_made, row_made}
use Rattle.hp_circuit.proofs.WordLaws.{choices_more}
use Rattle.hp_circuit.proofs.words.choices.Goals as goal

pub loop-i-preserved : goal.loop-i-preserved
loop-i-preserved c =
    let old = c.args.gates.now.items in
    let more =
    choices_more old c.loop-i.gates.items c.put.new.gates.items c.len-start.result c.loop-i.i c.in_ok-_number._number c.args.test c.args.a c.args.b c.args.width c.loop-i-test.true c.requires.test c.requires.a c.requires.b c.loop-i.invariant.0 c.loop-i.invariant.1 c.in_ok-_number.ensures.number c.in_ok-_number.ensures.long c.in_ok-_number.ensures.adds in
    (more.0, more.1, choices_made old c.loop-i.gates.items c.put.new.gates.items c.loop-i.i c.in_ok-_number._number c.args.test c.args.a c.args.b c.loop-i.invariant.2 c.in_ok-_number.ensures.made)

pub returns-clause-made : goal.returns-clause-made
returns-clause-made c =
    let e : c.loop-i.i ≡ c.args.width = omega arith in
    let start : c.len-start.result ≡ length c.args.gates.now.items = search rules in
    row_made c.args.gates.now.items c.loop-i.gates.items (choice_gates c.args.test c.args.a c.args.b c.loop-i.i) (choice_gates c.args.test c.args.a c.args.b c.args.width) c.len-start.result c.loop-i.invariant.2
    (ap (choice_gates c.args.test c.args.a c.args.b) e) start
