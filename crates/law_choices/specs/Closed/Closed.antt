-- The clocked equations that are made of a program read nothing that is undefined.
-- Source: own.
use Rattle.std.specs.Prelude.{ℕ, ◌<◌, ◌⊎◌, List, ◌++◌, length, Contains}
use Rattle.std.specs.List.{AllByRecursion}
use Rattle.hp_tree.specs.Meaning.{types_of}
use Rattle.hp_tree.specs.declared.program.Item.{Item}
use Rattle.law_values.specs.Accepted.Laws.{IsReady}
use Rattle.law_values.specs.Filled.Firsts.{TypesHaveConstructors}
use Rattle.hp_automata.specs.Lowering.{lowered_program}
use Rattle.law_automata.specs.Lowered.Removable.{IsRemovable}
use Rattle.hp_flat.specs.Equations.{FlatEqn}
use Rattle.hp_flat.specs.Nodes.{FlatNode}
use Rattle.law_equations.specs.Meaning.Fitting.{operands}
use Rattle.law_equations.specs.Meaning.Scheduling.{clock_variables, IsWithin}
use Rattle.hp_complete.specs.Declaring.{known_of}
use Rattle.hp_complete.specs.Made.{AreMadeOf}
use Rattle.law_wellmade.specs.Begun.Laws.{HasFewTypes}

-- some equation defines a variable
abbrev pub IsTarget : List FlatEqn → ℕ → Type 0
IsTarget es x = (e : FlatEqn) × Contains es e × Contains e.targets x

-- a variable is an input of the node, or some equation defines it
abbrev pub IsGiven : FlatNode → ℕ → Type 0
IsGiven n x = (x < n.inputs) ⊎ IsTarget n.eqns x

-- what stands in an equation: its clock, its restart list and its operands, of a register what it takes next
abbrev pub variables_in : FlatEqn → List ℕ
variables_in e = clock_variables e.clock ++ (e.restart ++ operands e.right)

-- Each variable of a node is given, so each output and whatever its equations read.
pub record IsClosed (n : FlatNode) : Type 0 where
  pub variables : (x : ℕ) → x < length n.variables → IsGiven n x
  pub outputs : AllByRecursion (IsGiven n) n.outputs
  pub eqns : AllByRecursion (λ (e : FlatEqn). AllByRecursion (IsGiven n) (variables_in e)) n.eqns

-- So it is of each node that is made of a ready program without its automata.
abbrev pub ClosedLaw : Type 0
ClosedLaw =
    (program after : List Item) → IsReady program after → IsRemovable after → TypesHaveConstructors (types_of program) → HasFewTypes program
    → (fs : List FlatNode) → AreMadeOf (known_of (lowered_program after)) (lowered_program after) fs → AllByRecursion IsClosed fs

-- And the numbers in each are those of its variables.
abbrev pub WithinLaw : Type 0
WithinLaw =
    (program after : List Item) → IsReady program after → IsRemovable after → TypesHaveConstructors (types_of program) → HasFewTypes program
    → (fs : List FlatNode) → AreMadeOf (known_of (lowered_program after)) (lowered_program after) fs → AllByRecursion IsWithin fs
