use Rattle.std.proofs.Common.{◌≡◌, ◌+◌, ◌++◌, length}
use Rattle.hp_circuit.specs.Adding.{row, AddsRow}
use Rattle.hp_circuit.specs.Wiring.{variable_gates}
use Rattle.hp_circuit.proofs.words.variables.Given as goal

abbrev pub invariant-loop-i : goal.invariant-loop-i
invariant-loop-i l = AddsRow (l.place + l.i) l.initial.gates.items l.gates.items l.start l.i (λ v. row v l.place l.i) × (length l.gates.items ≡ l.start + l.i) × (l.gates.items ≡ l.initial.gates.items ++ variable_gates l.place l.i)
