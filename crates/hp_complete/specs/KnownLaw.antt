-- What is known of the names of a program agrees with what the program says.
use Rattle.std.specs.Prelude.{◌≤◌, ⊤, List, [], ◌∷◌, length, reverse}
use Rattle.std.specs.List.{IsDistinct}
use Rattle.std.specs.Str.{bytes_eq}
use Rattle.hp_tree.specs.declared.program.Item.{Item}
use Rattle.hp_tree.specs.declared.program.Item.TheVariants.{TypeItem, NodeItem}
use Rattle.hp_tree.specs.Operators.{Reading}
use Rattle.hp_tree.specs.Meaning.{names_of, nodes, types_of}
use Rattle.law_equations.specs.Made.Standing.{Knows}
use Rattle.hp_complete.specs.Declaring.{known_of}
use Rattle.hp_complete.specs.Signatures.{type_names}

-- The numbers of constructors are within their range, and the outputs of each node have names of their own.
abbrev pub ItemsFit : List Item → Type 0
ItemsFit [] = ⊤
ItemsFit (TypeItem t ∷ items) = (length t.cons ≤ 256) × ItemsFit items
ItemsFit (NodeItem n ∷ items) = IsDistinct bytes_eq (names_of n.outputs) × ItemsFit items

-- So it is with the limits of the language, where each type has a name of its own.
abbrev pub KnownLaw : Type 0
KnownLaw = (R : Reading) (items : List Item) → IsDistinct bytes_eq (type_names items) → length (types_of items) ≤ 65535 → ItemsFit items → Knows (types_of items) (nodes (types_of items) R (reverse items)).outputs (known_of items)
