use Rattle.std.proofs.Common.{◌≡◌, ◌+◌, ◌-◌}
use Rattle.hp_circuit.specs.Numbers.{are_same}
use Rattle.hp_circuit.specs.Adding.{word, Adds}
use Rattle.hp_circuit.specs.Wiring.{with_same}
use Rattle.hp_circuit.proofs.words.same.Given as goal

abbrev pub invariant-loop-i : goal.invariant-loop-i
invariant-loop-i l =
    Adds 0 l.initial.gates.items l.gates.items l.found (λ v. are_same (word l.initial.gates.items v (l.a + l.i) (l.width - l.i)) (word l.initial.gates.items v (l.b + l.i) (l.width - l.i)))
    × ((l.gates.items, l.found) ≡ with_same l.initial.gates.items (l.a + l.i) (l.b + l.i) (l.width - l.i))
