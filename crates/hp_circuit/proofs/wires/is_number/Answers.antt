use Rattle.std.proofs.Common.{◌≡◌, length, ap, ◌∙◌, arith}
use Rattle.hp_circuit.proofs.NumberLaws.{length_bits}
use Rattle.hp_circuit.proofs.WordLaws.{compared_number}
use Rattle.hp_circuit.proofs.wires.is_number.Goals as goal

pub compared-requires-clause-a : goal.compared-requires-clause-a
compared-requires-clause-a c =
    let e : length c.deref.result.now ≡ c.args.width = ap length (c.deref.ensures.value ∙ c.in_ok-bits.ensures) ∙ length_bits c.args.width c.args.number in
    omega (arith, e, c.requires.a)

pub returns-clause-adds : goal.returns-clause-adds
returns-clause-adds c = compared_number c.args.gates.now.items c.compared.new.gates.items c.args.a c.args.width c.args.number 0 1 c.deref.result.now c.compared.result (c.deref.ensures.value ∙ c.in_ok-bits.ensures) c.compared.ensures.adds
