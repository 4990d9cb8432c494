-- Laws of what is drawn.
use Rattle.std.specs.Prelude.{◌≡◌, []}
use Rattle.hp_tree.specs.Programs.{Node}
use Rattle.hp_drawing.specs.Kept.{kept_slots}
use Rattle.hp_drawing.specs.Told.{Told}
use Rattle.hp_drawing.specs.Planned.{planned_node}
use Rattle.hp_drawing.specs.DrawnNodes.{drawn_node}

-- The slots of what is drawn of a node are those that are planned, in this order.
abbrev pub SlotsPlannedLaw : Type 0
SlotsPlannedLaw = (t : Told) (n : Node) → kept_slots (drawn_node t n).slots ≡ planned_node t n []
