use Rattle.std.proofs.Common.{◌≡◌, ◌<◌, ◌+◌, ℕ, length, take}
use Rattle.hp_circuit.specs.declared.kind.Kind.{Kind}
use Rattle.hp_circuit.specs.Making.{place_at}
use Rattle.hp_circuit.specs.Kinds.{bits_of, first_of, place_of}
use Rattle.hp_circuit.specs.Placing.{of_kind}
use Rattle.hp_circuit.proofs.places.places_of.Given as goal

abbrev pub invariant-loop-i : goal.invariant-loop-i
invariant-loop-i l =
    ((k : Kind) → of_kind k l.next ≡ first_of l.steered l.slots k + bits_of l.steered k (take l.i l.slots))
    × (length l.places.items ≡ l.i)
    × ((j : ℕ) → j < l.i → place_at l.places.items j ≡ place_of l.steered l.slots j)
