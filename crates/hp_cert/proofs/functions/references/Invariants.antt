use Rattle.std.proofs.Common.{◌≡◌, map, take}
use Rattle.hp_quant.specs.Lines.{reference_at}
use Rattle.hp_cert.proofs.functions.references.Given as goal

abbrev pub invariant-loop-number : goal.invariant-loop-number
invariant-loop-number l = l.found.items ≡ map (reference_at l.refs) (take l.number-index l.numbers)
