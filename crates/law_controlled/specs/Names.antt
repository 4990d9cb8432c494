-- The names of variables that are added to nodes.
-- Source: own.
use Rattle.std.specs.Prelude.{◌≡◌, ◌⊎◌, ⊤, ℕ, ◌+◌, ◌<◌, ◌≤◌, ◌^◌, List, [], ◌∷◌, ◌++◌, length, codes, decimal}
use Rattle.std.specs.List.{AllByRecursion, IsDistinct}
use Rattle.std.specs.Str.{bytes_eq}
use Rattle.hp_tree.specs.declared.program.Item.{Item}
use Rattle.law_values.specs.Accepted.Laws.{IsReady}
use Rattle.hp_automata.specs.Lowering.{lowered_program}
use Rattle.hp_flat.specs.declared.node.Variable.{Variable}
use Rattle.hp_flat.specs.Nodes.{FlatNode}
use Rattle.law_equations.specs.Followed.Premises.{IsOwn, names}
use Rattle.hp_complete.specs.Declaring.{known_of}
use Rattle.hp_complete.specs.Made.{AreMadeOf}
use Rattle.law_wellmade.specs.Suited.Suited.{HasFew}

-- the name of a variable with a number that is added: what the controller sees, and what is made of its answers
abbrev pub IsAdded : ℕ → List ℕ → Type 0
IsAdded x name = (name ≡ codes "w$x" ++ decimal x) ⊎ (name ≡ codes "b$x" ++ decimal x)

-- variables from a number on have such names
abbrev pub AreAdded : ℕ → List Variable → Type 0
AreAdded x [] = ⊤
AreAdded x (v ∷ vs) = IsAdded x v.name × AreAdded (x + 1) vs

-- The other node has more variables, which have such names.
pub record Adds (n other : FlatNode) : Type 0 where
  pub more : List Variable
  pub variables : other.variables ≡ n.variables ++ more
  pub added : AreAdded (length n.variables) more

-- Names of variables differ and are no names of memories or instances.
pub record HasFreeNames (n : FlatNode) : Type 0 where
  pub differ : IsDistinct bytes_eq (names n.variables)
  pub own : AllByRecursion IsOwn (names n.variables)

-- So it is, and none is that of an added variable of a larger number.
pub record HasNames (n : FlatNode) : Type 0 where
  pub names_free : HasFreeNames n
  pub free : (k : ℕ) → length n.variables ≤ k → k < 2 ^ 64 → AllByRecursion (λ (x : List ℕ). IsAdded k x → ⊥) (names n.variables)

-- Where variables are added, names differ still: there are no more than memory holds.
abbrev pub NamesLaw : Type 0
NamesLaw = (n other : FlatNode) → HasNames n → Adds n other → length other.variables ≤ 2 ^ 64 → HasFreeNames other

-- The clocked equations of the nodes of a ready program have such names, also where variables are controllable.
abbrev pub PlantNamesLaw : Type 0
PlantNamesLaw =
    (program after : List Item) → IsReady program after → (plants : List FlatNode) → AreMadeOf (known_of (lowered_program after)) (lowered_program after) plants → AllByRecursion HasFew plants → AllByRecursion HasNames plants
