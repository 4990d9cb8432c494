-- Laws of the slots of what is drawn of a node.
use Rattle.std.specs.Prelude.{◌≡◌, Contains, List, []}
use Rattle.hp_tree.specs.declared.program.Item.{Item}
use Rattle.hp_tree.specs.declared.program.Item.TheVariants.{NodeItem}
use Rattle.hp_tree.specs.Meaning.{types_of}
use Rattle.hp_tree.specs.Programs.{Node}
use Rattle.hp_meaning.specs.Contract.Forgetting.{ContractsCallNothing}
use Rattle.hp_meaning.specs.Contract.Memory.{number_in, memory}
use Rattle.hp_meaning.specs.Contract.Slots.{slots_of_node}
use Rattle.hp_drawing.specs.DrawnNodes.{drawn_node}
use Rattle.hp_drawing.specs.Kept.{kept_slots}
use Rattle.hp_drawing.specs.Told.{told_of}
use Rattle.hp_names.specs.Rules.{WellNamed}
use Rattle.hp_drawing.specs.Slotted.Slotted.{slots_as}

-- Where contracts call nothing and names are well used, as in each judged program, the slots of what is drawn of a node are those of its abstraction, in order, and its registers hold at first what memory has of no history.
abbrev pub NodeSlotsLaw : Type 0
NodeSlotsLaw =
    (program : List Item) (n : Node) → ContractsCallNothing program → WellNamed program → Contains program (NodeItem n)
    → kept_slots (drawn_node (told_of program) n).slots ≡ slots_as (types_of program) (λ p. number_in (memory program n [] p)) (slots_of_node program n)
