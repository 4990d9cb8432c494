-- What a program says of its types, constructors and nodes, as functions of names.
use Rattle.std.specs.Prelude.{ℕ, ◌+◌, if◌then◌else◌, length, List, [], ◌∷◌, Option, None, Some}
use Rattle.std.specs.Str.{bytes_eq}
use Rattle.hp_base.specs.declared.ty.Ty.{Ty}
use Rattle.hp_base.specs.declared.ty.Ty.TheVariants as ty
use Rattle.hp_base.specs.declared.ty.Const.{Const}
use Rattle.hp_base.specs.declared.ty.Const.TheVariants as const
use Rattle.hp_tree.specs.declared.program.Item.{Item}
use Rattle.hp_tree.specs.declared.program.Item.TheVariants.{TypeItem, NodeItem}
use Rattle.hp_tree.specs.Programs.{Node}
use Rattle.hp_circuit.specs.declared.circuit.Shape.{Shape}
use Rattle.hp_circuit.specs.declared.circuit.Shape.TheVariants.{Truth, Cons, Mark}
use Rattle.hp_drawing.specs.declared.parts.Constructor.{Constructor}

module _ {A : Type 0} where
  abbrev pub put_at : (List ℕ → Option A) → List ℕ → A → List ℕ → Option A
  put_at f y v x = if bytes_eq y x then Some v else f x

  abbrev pub none_of : List ℕ → Option A
  none_of x = None

-- how many constructors a type has; a constructor with its number, and how many its type has; a node
pub record Told : Type 0 where
  pub counts : List ℕ → Option ℕ
  pub constructors : List ℕ → Option Constructor
  pub nodes : List ℕ → Option Node

-- ---- of two types, or two constructors, of one name the first counts, and of two nodes the last

abbrev pub with_type : Item → (List ℕ → Option ℕ) → List ℕ → Option ℕ
with_type (TypeItem d) others = put_at others d.name (length d.cons)
with_type (NodeItem n) others = others

abbrev pub counts_of : List Item → List ℕ → Option ℕ
counts_of [] = none_of
counts_of (item ∷ items) = with_type item (counts_of items)

abbrev pub or_none : Option ℕ → ℕ
or_none None = 0
or_none (Some n) = n

-- the constructors of a type of so many, numbered from one on
abbrev pub with_constructors : ℕ → ℕ → List (List ℕ) → (List ℕ → Option Constructor) → List ℕ → Option Constructor
with_constructors count k [] others = others
with_constructors count k (c ∷ cs) others = put_at (with_constructors count (k + 1) cs others) c (record { number = k; count = count })

abbrev pub with_type_constructors : (List ℕ → Option ℕ) → Item → (List ℕ → Option Constructor) → List ℕ → Option Constructor
with_type_constructors counts (TypeItem d) others = with_constructors (or_none (counts d.name)) 0 d.cons others
with_type_constructors counts (NodeItem n) others = others

abbrev pub constructors_of : (List ℕ → Option ℕ) → List Item → List ℕ → Option Constructor
constructors_of counts [] = none_of
constructors_of counts (item ∷ items) = with_type_constructors counts item (constructors_of counts items)

abbrev pub with_node : (List ℕ → Option Node) → Item → List ℕ → Option Node
with_node before (TypeItem t) = before
with_node before (NodeItem n) = put_at before n.name n

abbrev pub with_nodes : (List ℕ → Option Node) → List Item → List ℕ → Option Node
with_nodes before [] = before
with_nodes before (item ∷ items) = with_nodes (with_node before item) items

abbrev pub told_of : List Item → Told
told_of items = record { counts = counts_of items; constructors = constructors_of (counts_of items) items; nodes = with_nodes none_of items }

-- ---- what types and constants are carried as

abbrev pub type_shape : Told → Ty → Shape
type_shape t ty.Bool = Truth
type_shape t ty.Int = Mark
type_shape t (ty.Enum x) = Cons (or_none (t.counts x))

abbrev pub constructor_shape : Option Constructor → Shape
constructor_shape None = Truth
constructor_shape (Some c) = Cons c.count

abbrev pub constructor_number : Option Constructor → ℕ
constructor_number None = 0
constructor_number (Some c) = c.number

abbrev pub constant_shape : Told → Const → Shape
constant_shape t (const.B b) = Truth
constant_shape t (const.I n) = Mark
constant_shape t (const.E x) = constructor_shape (t.constructors x)

abbrev pub constant_number : Told → Const → ℕ
constant_number t (const.B b) = if b then 1 else 0
constant_number t (const.I n) = 0
constant_number t (const.E x) = constructor_number (t.constructors x)
