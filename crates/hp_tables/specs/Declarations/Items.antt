-- The constructors and the nodes that a program declares, as functions of names.
-- Source: own.
use Rattle.std.specs.Prelude.{ℕ, ◌+◌, List, [], ◌∷◌, Option, None, Some}
use Rattle.hp_tree.specs.declared.program.Item.{Item}
use Rattle.hp_tree.specs.declared.program.Item.TheVariants.{TypeItem, NodeItem}
use Rattle.hp_tree.specs.Programs.{Node}
use Rattle.hp_tables.specs.Declarations.Tables.{put_at, nothing}

-- constructors by names: a number of the type, and the own place among those of the type
abbrev pub Constructors : Type 0
Constructors = List ℕ → Option (ℕ × ℕ)

-- the constructors of a type with this number, at the places from k on, beside others
abbrev pub with_constructors : ℕ → ℕ → List (List ℕ) → Constructors → Constructors
with_constructors t k [] others = others
with_constructors t k (c ∷ cs) others = put_at (with_constructors t (k + 1) cs others) c (t, k)

abbrev pub number_or : ℕ → Option ℕ → ℕ
number_or other None = other
number_or other (Some n) = n

abbrev pub with_item : (List ℕ → Option ℕ) → ℕ → Item → Constructors → Constructors
with_item types other (TypeItem t) others = with_constructors (number_or other (types t.name)) 0 t.cons others
with_item types other (NodeItem n) others = others

-- those of a program, where types have these numbers, and one that has none the other; of two of one name the first counts
abbrev pub constructors_of : (List ℕ → Option ℕ) → ℕ → List Item → Constructors
constructors_of types other [] = nothing
constructors_of types other (item ∷ items) = with_item types other item (constructors_of types other items)

-- nodes by names, where some are known before; of two of one name the last counts
abbrev pub with_node : (List ℕ → Option Node) → Item → List ℕ → Option Node
with_node before (TypeItem t) = before
with_node before (NodeItem n) = put_at before n.name n

abbrev pub with_nodes : (List ℕ → Option Node) → List Item → List ℕ → Option Node
with_nodes before [] = before
with_nodes before (item ∷ items) = with_nodes (with_node before item) items
