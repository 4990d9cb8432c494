-- Removing automata keeps that classes are right.
use Rattle.std.specs.Prelude.{List, reverse}
use Rattle.hp_tree.specs.declared.program.Item.{Item}
use Rattle.law_values.specs.Valued.Values.{Classing}
use Rattle.law_values.specs.Accepted.Laws.{IsReady}
use Rattle.hp_automata.specs.Lowering.{lowered_program}
use Rattle.law_automata.specs.Lowered.Removable.{IsRemovable}
use Rattle.law_automata.specs.Readied.Accepted.{ClassesBehind}

-- The nodes of a ready program without its automata have classes, which follow their definitions and meet what is wanted First.
abbrev pub ClassesLaw : Type 0
ClassesLaw = (program after : List Item) → IsReady program after → IsRemovable after → (class : Classing) × ClassesBehind class (reverse (lowered_program after))
