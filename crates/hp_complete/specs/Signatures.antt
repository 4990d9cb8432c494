-- What a node of clocked equations has of the node that it is made of.
use Rattle.std.specs.Prelude.{ℕ, zero, suc, ◌+◌, ◌≡◌, ⊤, List, [], ◌∷◌, ◌++◌, length, map, take, Option, Some, slice_get}
use Rattle.hp_tree.specs.declared.program.Item.{Item}
use Rattle.hp_tree.specs.declared.program.Item.TheVariants.{TypeItem, NodeItem}
use Rattle.hp_tree.specs.Blocks.{Decl}
use Rattle.hp_tree.specs.Programs.{Node}
use Rattle.hp_tree.specs.Meaning.{controls_of}
pub use Rattle.hp_tables.specs.Declarations.Tables.{numbered}
use Rattle.hp_flat.specs.declared.node.Variable.{Variable}
use Rattle.hp_flat.specs.Nodes.{FlatNode}
use Rattle.law_equations.specs.Made.Making.{flat_type}
use Rattle.hp_complete.specs.Ranges.{IsInRange}

abbrev pub type_names : List Item → List (List ℕ)
type_names [] = []
type_names (TypeItem t ∷ items) = t.name ∷ type_names items
type_names (NodeItem n ∷ items) = type_names items

-- the places of types in a program
abbrev pub places_of : List Item → List ℕ → Option ℕ
places_of items x = numbered 0 (type_names items) x

-- the variable of a declaration
abbrev pub variable_of : (List ℕ → Option ℕ) → Decl → Variable
variable_of places d = record { name = d.name; ty = flat_type places d.ty }

abbrev pub variables_of : (List ℕ → Option ℕ) → List Decl → List Variable
variables_of places ds = map (variable_of places) ds

-- so many numbers from k on
abbrev pub numbers_from : ℕ → ℕ → List ℕ
numbers_from k zero = []
numbers_from k (suc n) = k ∷ numbers_from (k + 1) n

-- Its first variables are the inputs and the controllable variables, and its outputs are variables of the outputs, each with its name and its type.
pub record IsSigned (places : List ℕ → Option ℕ) (n : Node) (f : FlatNode) : Type 0 where
  pub name : f.name ≡ n.name
  pub inputs : f.inputs ≡ length (n.inputs ++ controls_of n.contract)
  pub first : take f.inputs f.variables ≡ variables_of places (n.inputs ++ controls_of n.contract)
  pub outputs : map (slice_get f.variables) f.outputs ≡ map Some (variables_of places n.outputs)

pub record IsFlat (places : List ℕ → Option ℕ) (n : Node) (f : FlatNode) : Type 0 where
  pub signed : IsSigned places n f
  pub in_range : IsInRange f

-- there is one for each node of some items, in order
abbrev pub AreFlat : (List ℕ → Option ℕ) → List Item → List FlatNode → Type 0
AreFlat places [] [] = ⊤
AreFlat places [] (f ∷ fs) = ⊥
AreFlat places (TypeItem t ∷ items) fs = AreFlat places items fs
AreFlat places (NodeItem n ∷ items) [] = ⊥
AreFlat places (NodeItem n ∷ items) (f ∷ fs) = IsFlat places n f × AreFlat places items fs
