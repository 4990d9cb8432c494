-- Which limit on what is counted of a program is passed first.
use Rattle.std.specs.Prelude.{ℕ, suc, ◌+◌, nat_lt, if◌then◌else◌, List, [], ◌∷◌, Option, None, Some}
use Rattle.hp_base.specs.Limits.{most}
use Rattle.hp_base.specs.declared.limit.Limit.{Limit}
use Rattle.hp_base.specs.declared.limit.What.{What}
use Rattle.hp_base.specs.declared.limit.What.TheVariants.{Nest, Places, Total, Instances, Cells, Calls}
use Rattle.hp_tree.specs.declared.program.Item.{Item}
use Rattle.hp_tree.specs.declared.program.Item.TheVariants.{TypeItem, NodeItem}
use Rattle.hp_expand.specs.Sizes.{Size, in_node, with_node, nothing_known}

-- a count that passes its limit is told as the limit and one
unfoldable pub passed : What → ℕ → Option Limit
passed what n = if nat_lt (most what) n then Some (record { what = what; found = suc (most what) }) else None

-- the first of two limits that is passed
unfoldable pub or_passed : Option Limit → Option Limit → Option Limit
or_passed None other = other
or_passed (Some l) other = Some l

-- A node with this in it, behind nodes with so many places: its blocks in each other, its places, those of all nodes, itself and
-- the instances below it, their places, and the nodes on a chain of plain calls.
unfoldable pub passed_by : ℕ → Size → Option Limit
passed_by total s =
    or_passed (passed Nest (suc s.nest))
    (or_passed (passed Places s.places)
    (or_passed (passed Total (total + s.places))
    (or_passed (passed Instances (suc s.instances))
    (or_passed (passed Cells (s.places + s.cells)) (passed Calls (suc s.calls))))))

-- a limit that is passed by the node of the name, or else the one that is passed behind it
abbrev pub at_node : List ℕ → Option Limit → Option (List ℕ × Limit) → Option (List ℕ × Limit)
at_node f None behind = behind
at_node f (Some l) behind = Some (f, l)

-- the first node that passes a limit, and the first limit that it passes
abbrev pub in_items : (List ℕ → Size) → ℕ → List Item → Option (List ℕ × Limit)
in_items known total [] = None
in_items known total (TypeItem t ∷ items) = in_items known total items
in_items known total (NodeItem n ∷ items) =
    let s = in_node known n in
    at_node n.name (passed_by total s) (in_items (with_node known n.name s) (total + s.places) items)

abbrev pub limit_of : List Item → Option (List ℕ × Limit)
limit_of program = in_items nothing_known 0 program
