-- Programs without automata are accepted, where their nodes have classes.
use Rattle.std.specs.Prelude.{⊤, List, [], ◌∷◌, reverse}
use Rattle.hp_tree.specs.declared.program.Item.{Item}
use Rattle.hp_tree.specs.declared.program.Item.TheVariants.{TypeItem, NodeItem}
use Rattle.hp_tree.specs.Meaning.{types_of}
use Rattle.law_values.specs.Valued.Classed.{HasClasses}
use Rattle.law_values.specs.Valued.Values.{Classing, class_here, class_behind, AreAccepted}
use Rattle.law_values.specs.Accepted.Laws.{IsReady}
use Rattle.hp_automata.specs.Lowering.{lowered_program}
use Rattle.law_automata.specs.Lowered.Removable.{IsRemovable}
use Rattle.law_automata.specs.Readied.Sound.{HaveConstructors}

-- the nodes of some items, which stand with the last one first, have these classes
abbrev pub ClassesBehind : Classing → List Item → Type 0
ClassesBehind class [] = ⊤
ClassesBehind class (TypeItem t ∷ earlier) = ClassesBehind class earlier
ClassesBehind class (NodeItem n ∷ earlier) = HasClasses (class_here class) n × ClassesBehind (class_behind class) earlier

-- A ready program without its automata is accepted with the classes that its nodes have: its nodes are sound, and their clocks are right.
abbrev pub AcceptedLaw : Type 0
AcceptedLaw =
    (program after : List Item) (class : Classing) → IsReady program after → IsRemovable after → HaveConstructors program → ClassesBehind class (reverse (lowered_program after))
    → AreAccepted (types_of (lowered_program after)) class (reverse (lowered_program after))
