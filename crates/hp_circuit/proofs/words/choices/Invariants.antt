use Rattle.std.proofs.Common.{◌≡◌, ◌+◌, ◌++◌, length}
use Rattle.std.specs.Prelude.{if◌then◌else◌}
use Rattle.hp_circuit.specs.Adding.{at, word, AddsRow}
use Rattle.hp_circuit.specs.Wiring.{choice_gates}
use Rattle.hp_circuit.proofs.words.choices.Given as goal

abbrev pub invariant-loop-i : goal.invariant-loop-i
invariant-loop-i l = AddsRow 0 l.initial.gates.items l.gates.items l.start l.i (λ v. if at l.initial.gates.items v l.test then word l.initial.gates.items v l.a l.i else word l.initial.gates.items v l.b l.i) × (length l.gates.items ≡ l.start + l.i) × (l.gates.items ≡ l.initial.gates.items ++ choice_gates l.test l.a l.b l.i)
