use Rattle.std.proofs.Common.{◌≡◌, ◌+◌, ◌-◌, drop, length}
use Rattle.hp_circuit.specs.Numbers.{compared}
use Rattle.hp_circuit.specs.Adding.{at, word, Adds}
use Rattle.hp_circuit.specs.Wiring.{with_compared}
use Rattle.hp_circuit.proofs.words.compared.Given as goal

abbrev pub invariant-loop-i : goal.invariant-loop-i
invariant-loop-i l =
    Adds 0 l.initial.gates.items l.gates.items l.found (λ v. compared (at l.initial.gates.items v l.less) (at l.initial.gates.items v l.equal) (word l.initial.gates.items v (l.a + l.i) (length l.bits - l.i)) (drop l.i l.bits))
    × ((l.gates.items, l.found) ≡ with_compared l.initial.gates.items (l.a + l.i) (drop l.i l.bits) l.less l.equal)
