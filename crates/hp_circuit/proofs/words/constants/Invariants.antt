use Rattle.std.proofs.Common.{◌≡◌, ◌+◌, ◌++◌, length, take}
use Rattle.hp_circuit.specs.Adding.{AddsRow}
use Rattle.hp_circuit.specs.Wiring.{constant_gates}
use Rattle.hp_circuit.proofs.words.constants.Given as goal

abbrev pub invariant-loop-i : goal.invariant-loop-i
invariant-loop-i l = AddsRow 0 l.initial.gates.items l.gates.items l.start l.i (λ v. take l.i l.bits) × (length l.gates.items ≡ l.start + l.i) × (l.gates.items ≡ l.initial.gates.items ++ constant_gates (take l.i l.bits))
