-- That clocks stay written where automata are removed.
use Rattle.hp_tree.specs.Programs.{Node}
use Rattle.hp_meaning.specs.Clocking.Clocking.{NodeWritten}
use Rattle.hp_automata.specs.Lowering.{Enumerations, lowered_node}

-- Where a clock is written at each declaration of a node, so it is without automata: new variables are on the base clock.
abbrev pub WrittenLaw : Type 0
WrittenLaw = (enums : Enumerations) (n : Node) → NodeWritten n → NodeWritten (lowered_node enums n)
