-- What is known of the names that a program declares.
use Rattle.std.specs.Prelude.{ℕ, ◌+◌, min, List, [], ◌∷◌, Option}
use Rattle.hp_tree.specs.declared.program.Item.{Item}
use Rattle.hp_tree.specs.declared.program.Item.TheVariants.{TypeItem, NodeItem}
pub use Rattle.hp_tables.specs.Declarations.Items.{with_node, with_nodes}
use Rattle.hp_tables.specs.Declarations.Tables.{nothing, put_at}
use Rattle.law_equations.specs.Made.Making.{Known, type_number}
use Rattle.hp_complete.specs.Signatures.{places_of}

-- constructors by names: the number of the type, and the own one
abbrev pub Constructors : Type 0
Constructors = List ℕ → Option (ℕ × ℕ)

-- The constructors of a type, numbered from k on, beside others. An own number ends at 255, and no accepted program has so many.
abbrev pub with_constructors : ℕ → ℕ → List (List ℕ) → Constructors → Constructors
with_constructors t k [] others = others
with_constructors t k (c ∷ cs) others = put_at (with_constructors t (k + 1) cs others) c (t, min k 255)

abbrev pub with_item : (List ℕ → Option ℕ) → Item → Constructors → Constructors
with_item places (TypeItem t) others = with_constructors (type_number (places t.name)) 0 t.cons others
with_item places (NodeItem n) others = others

-- of two constructors of one name the first counts
abbrev pub constructors_of : (List ℕ → Option ℕ) → List Item → Constructors
constructors_of places [] = nothing
constructors_of places (item ∷ items) = with_item places item (constructors_of places items)

abbrev pub known_of : List Item → Known
known_of items = record { types = places_of items; constructors = constructors_of (places_of items) items; nodes = with_nodes nothing items }
