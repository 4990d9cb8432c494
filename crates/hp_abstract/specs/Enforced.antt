-- The wire of what a node enforces, as it is drawn.
use Rattle.std.specs.Prelude.{ℕ}
use Rattle.hp_tree.specs.Programs.{Node}
use Rattle.hp_drawing.specs.DrawnNodes.{node_scope, with_controls, drawn_observer}
use Rattle.hp_drawing.specs.Sketch.{Sketch, empty}
use Rattle.hp_drawing.specs.Told.{Told}

-- in a sketch behind what is there
abbrev pub enforced_from : Told → Node → Sketch → ℕ
enforced_from t n s =
    let z = node_scope t n s in
    (drawn_observer t z.0 n.contract (with_controls t n z.1)).0.enforce

-- in the sketch of the node
abbrev pub enforced : Told → Node → ℕ
enforced t n = enforced_from t n empty
