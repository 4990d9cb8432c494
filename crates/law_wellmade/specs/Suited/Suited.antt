-- That the clocked equations of a program are what their machines ask for.
use Rattle.std.specs.Prelude.{◌≤◌, ◌^◌, ⊤, ℕ, List, [], ◌∷◌, length, IsTrue}
use Rattle.std.specs.List.{AllByRecursion}
use Rattle.hp_base.specs.declared.value.Value.{Value}
use Rattle.hp_obc.specs.Form.{TypesForm, has_name}
use Rattle.hp_obc.specs.Machines.{ObcType}
use Rattle.hp_tree.specs.declared.program.Item.{Item}
use Rattle.hp_tree.specs.declared.program.Item.TheVariants.{TypeItem, NodeItem}
use Rattle.hp_tree.specs.Programs.{TypeDecl, Node}
use Rattle.hp_tree.specs.Instant.{Place}
use Rattle.hp_flat.specs.Nodes.{FlatNode}
use Rattle.law_equations.specs.Meaning.Solving.{TargetsDiffer}
use Rattle.law_equations.specs.Flattened.Lifted.{in_body}
use Rattle.law_equations.specs.Flattened.Behaves.{EachCallIn}
use Rattle.law_equations.specs.Made.Making.{Known}
use Rattle.law_equations.specs.Made.Standing.{Knows}
use Rattle.law_equations.specs.Made.Laws.{NodeReady}
use Rattle.law_equations.specs.Followed.Programs.{CallsOnly}
use Rattle.hp_complete.specs.Made.{IsMadeOf, AreMadeOf}
use Rattle.hp_complete.specs.Ranges.{IsInRange}
use Rattle.hp_complete.specs.Signatures.{AreFlat}
use Rattle.hp_form.specs.Regular.Regular.{IsRegular}
use Rattle.law_equations.specs.Fewer.Compiling.{FlatForm, AreFlatNodes}
use Rattle.law_equations.specs.Fitting.Fitting.{NodeNamed}

-- What is asked of a node whose first values are these, behind nodes of these names: that it is ready, that its names are apart, and that it calls nodes before it.
pub record IsAsked (k : Known) (fill : Place → Value) (earlier : List (List ℕ)) (n : Node) : Type 0 where
  pub ready : NodeReady k fill n
  pub named : NodeNamed n
  pub calls : EachCallIn (λ f p. IsTrue (has_name earlier f)) n.body in_body

-- The equations of a node have what its machine asks for, targets that differ, and call nodes before it.
pub record IsSuited (kinds : List ObcType) (earlier : List (List ℕ)) (f : FlatNode) : Type 0 where
  pub form : FlatForm kinds f
  pub targets : TargetsDiffer f
  pub calls : CallsOnly earlier f.eqns

-- numbers of variables have 64 bits
abbrev pub HasFew : FlatNode → Type 0
HasFew f = length f.variables ≤ 2 ^ 64

-- It is so of a node of which this is asked, where its equations are in range and regular.
abbrev pub SuitedLaw : Type 0
SuitedLaw =
    (types : List TypeDecl) (kinds : List ObcType) (outputs : List ℕ → List (List ℕ)) (k : Known) (fill : Place → Value) (earlier : List (List ℕ)) (n : Node) (f : FlatNode) → Knows types outputs k → TypesForm kinds
    → IsAsked k fill earlier n → IsMadeOf k n f → IsInRange f → HasFew f → IsRegular kinds f → IsSuited kinds earlier f

-- ---- programs

-- this is asked of each node of some items, the first values of each given by its name
abbrev pub AreAsked : Known → (List ℕ → Place → Value) → List (List ℕ) → List Item → Type 0
AreAsked k fills earlier [] = ⊤
AreAsked k fills earlier (TypeItem t ∷ items) = AreAsked k fills earlier items
AreAsked k fills earlier (NodeItem n ∷ items) = IsAsked k (fills n.name) earlier n × AreAsked k fills (n.name ∷ earlier) items

-- So the nodes of a program are, in order, what its machines are made of.
abbrev pub ProgramLaw : Type 0
ProgramLaw =
    (types : List TypeDecl) (kinds : List ObcType) (outputs : List ℕ → List (List ℕ)) (k : Known) (fills : List ℕ → Place → Value) (items : List Item) (fs : List FlatNode) → Knows types outputs k → TypesForm kinds
    → AreAsked k fills [] items → AreMadeOf k items fs → AreFlat k.types items fs → AllByRecursion HasFew fs → AllByRecursion (IsRegular kinds) fs → AreFlatNodes kinds [] fs
