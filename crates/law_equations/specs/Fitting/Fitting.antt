-- What the variables and equations that are made of a node have of what is asked of clocked equations.
use Rattle.std.specs.Prelude.{◌≡◌, ◌<◌, ◌≤◌, ◌^◌, ℕ, Bool, true, false, nat_eq, List, ◌++◌, length, IsTrue}
use Rattle.std.specs.List.{AllByRecursion, IsDistinct}
use Rattle.std.specs.Str.{bytes_eq}
use Rattle.hp_tree.specs.Programs.{Node}
use Rattle.hp_tree.specs.Meaning.{declares, controls_of, names_of}
use Rattle.hp_obc.specs.Form.{has_name}
use Rattle.hp_flat.specs.Equations.{FlatEqn}
use Rattle.law_equations.specs.Flattened.Flatten.{Prefix}
use Rattle.law_equations.specs.Flattened.Behaves.{EachCallIn}
use Rattle.law_equations.specs.Followed.Programs.{CallsOnly}
use Rattle.law_equations.specs.Followed.Premises.{letter_of, IsOwn, names}
use Rattle.law_equations.specs.Made.Blocks.{locals_of}
use Rattle.law_equations.specs.Made.Making.{Known, new_name, sketch_node}

-- the letter behind the first sign of the names that are made for variables
abbrev pub is_made : List ℕ → Bool
is_made x = nat_eq (letter_of x) 120

-- a name that is of no form of a name that is made: for a variable, or for a memory or an instance
pub record IsKept (x : List ℕ) : Type 0 where
  pub no_variable : is_made x ≡ false
  pub own : IsOwn x

-- the names of inputs, controllable variables and outputs
abbrev pub signature_names : Node → List (List ℕ)
signature_names n = names_of (n.inputs ++ controls_of n.contract) ++ names_of n.outputs

-- What is asked of the names of a node: those of its signature differ from each other and from those that its body declares, and all are kept.
pub record NodeNamed (n : Node) : Type 0 where
  pub differ : IsDistinct bytes_eq (signature_names n)
  pub apart : (x : List ℕ) → declares (locals_of n.body) x ≡ true → AllByRecursion (λ y. bytes_eq y x ≡ false) (signature_names n)
  pub signature : AllByRecursion IsKept (signature_names n)
  pub locals : AllByRecursion IsKept (names_of (locals_of n.body))

-- Then the names of the variables differ, and none is that of a memory or an instance. Numbers of variables have 64 bits.
abbrev pub NamesLaw : Type 0
NamesLaw =
    (k : Known) (n : Node) → NodeNamed n → length (sketch_node k n).variables ≤ 2 ^ 64
    → IsDistinct bytes_eq (names (sketch_node k n).variables) × AllByRecursion IsOwn (names (sketch_node k n).variables)

-- And none is a name that is made for a variable of a larger number.
abbrev pub FreeNamesLaw : Type 0
FreeNamesLaw =
    (k : Known) (n : Node) → NodeNamed n → (stem : List ℕ) (number : ℕ) → length (sketch_node k n).variables ≤ number → number < 2 ^ 64 → AllByRecursion (λ x. x ≡ new_name stem number → ⊥) (names (sketch_node k n).variables)

-- No equation has a target twice.
abbrev pub TargetsLaw : Type 0
TargetsLaw = (k : Known) (n : Node) → AllByRecursion (λ (e : FlatEqn). IsDistinct nat_eq e.targets) (sketch_node k n).eqns

-- Where the tree calls some nodes only, so do the equations.
abbrev pub CallsLaw : Type 0
CallsLaw = (k : Known) (earlier : List (List ℕ)) (n : Node) (here : Prefix) → EachCallIn (λ f p. IsTrue (has_name earlier f)) n.body here → CallsOnly earlier (sketch_node k n).eqns
