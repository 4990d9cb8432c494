-- When the values of a program are there from the first instant on, and where it fails.
use Rattle.std.specs.Prelude.{◌≡◌, ⊤, ℕ, if◌then◌else◌, List, [], ◌∷◌, ◌++◌, Option, None, Some}
use Rattle.hp_base.specs.declared.span.Span.{Span}
use Rattle.hp_tree.specs.declared.program.Item.{Item}
use Rattle.hp_tree.specs.declared.program.Item.TheVariants.{TypeItem, NodeItem}
use Rattle.hp_tree.specs.Programs.{Node}
use Rattle.hp_init.specs.Classes.{Assignment, AreClasses}
use Rattle.hp_init.specs.Wants.{Wish, of_node}

-- the place of the first unit with a want that is not met
abbrev pub first_unmet : List Wish → Option Span
first_unmet [] = None
first_unmet (w ∷ ws) = if w.met then first_unmet ws else Some w.at

-- what is found in a node, whose names have their least classes
abbrev pub IsFound : Node → Option Span → Type 0
IsFound n found = (class : Assignment) × (AreClasses n class × (first_unmet (of_node class n) ≡ found))

-- Each want of each node is met.
abbrev pub IsInitialised : List Item → Type 0
IsInitialised [] = ⊤
IsInitialised (TypeItem t ∷ items) = IsInitialised items
IsInitialised (NodeItem n ∷ items) = IsFound n None × IsInitialised items

-- The unit at a place of the node of a name is the first, node by node, with a want that is not met.
pub record IsLate (items : List Item) (name : List ℕ) (at : Span) : Type 0 where
  pub before : List Item
  pub node : Node
  pub behind : List Item
  pub split : items ≡ before ++ NodeItem node ∷ behind
  pub named : node.name ≡ name
  pub earlier : IsInitialised before
  pub late : IsFound node (Some at)
