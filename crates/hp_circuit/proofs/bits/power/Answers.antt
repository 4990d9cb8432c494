use Rattle.std.proofs.Common.{◌∙◌}
use Rattle.std.proofs.lemmas.Nat.{one_shl}
use Rattle.hp_circuit.proofs.NumberLaws.{power_is}
use Rattle.hp_circuit.proofs.bits.power.Goals as goal

pub returns : goal.returns
returns c = one_shl c.args.exponent 64 c.requires ∙ power_is c.args.exponent
