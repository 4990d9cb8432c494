-- What wires carry, and how wide it is in bits.
use Rattle.std.specs.Prelude.{ℕ}
use Rattle.hp_circuit.specs.declared.circuit.Shape.{Shape}
use Rattle.hp_circuit.specs.declared.circuit.Shape.TheVariants.{Truth, Cons, Mark}
use Rattle.hp_circuit.specs.Numbers.{width}

abbrev pub shape_width : Shape → ℕ
shape_width Truth = 1
shape_width (Cons count) = width count
shape_width Mark = 0
