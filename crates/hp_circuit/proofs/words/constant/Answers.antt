use Rattle.std.proofs.Common.{◌∙◌}
use Rattle.hp_circuit.proofs.WordLaws.{constant_of}
use Rattle.hp_circuit.proofs.words.constant.Goals as goal

pub returns-clause-adds : goal.returns-clause-adds
returns-clause-adds c = constant_of c.args.gates.now.items c.constants.new.gates.items c.args.width c.args.number c.deref.result.now c.constants.result (c.deref.ensures.value ∙ c.in_ok-bits.ensures) c.constants.ensures.adds
