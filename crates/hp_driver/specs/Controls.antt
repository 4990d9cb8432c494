-- Which programs have controllable variables.
use Rattle.std.specs.Prelude.{Bool, true, false, ◌||◌, List, [], ◌∷◌}
use Rattle.hp_tree.specs.Blocks.{Decl}
use Rattle.hp_tree.specs.Meaning.{controls_of}
use Rattle.hp_tree.specs.declared.program.Item.{Item}
use Rattle.hp_tree.specs.declared.program.Item.TheVariants.{TypeItem, NodeItem}

-- there is one
abbrev pub some_variable : List Decl → Bool
some_variable [] = false
some_variable (d ∷ ds) = true

-- an item that is a node with controllable variables
abbrev pub own_controls : Item → Bool
own_controls (TypeItem t) = false
own_controls (NodeItem n) = some_variable (controls_of n.contract)

-- a node of the program has controllable variables
abbrev pub has_controls : List Item → Bool
has_controls [] = false
has_controls (item ∷ items) = own_controls item || has_controls items
