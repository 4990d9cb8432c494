-- Numbers of variables that are those of a node.
use Rattle.std.specs.Prelude.{ℕ, ◌<◌, ◌≤◌, ⊤, All, length}
use Rattle.hp_flat.specs.declared.equation.Atom.{Atom}
use Rattle.hp_flat.specs.declared.equation.Atom.TheVariants.{Variable, Value}
use Rattle.hp_flat.specs.Equations.{Right, operator, register, called, FlatEqn}
use Rattle.hp_flat.specs.Nodes.{FlatNode}

-- a variable is one of the first n
abbrev pub AtomWithin : ℕ → Atom → Type 0
AtomWithin n (Variable x) = x < n
AtomWithin n (Value v) = ⊤

abbrev pub RightWithin : ℕ → Right → Type 0
RightWithin n (operator op args) = All (AtomWithin n) args
RightWithin n (register first next) = AtomWithin n next
RightWithin n (called f args) = All (AtomWithin n) args

-- all variables of an equation are among the first n
pub record EqnWithin (n : ℕ) (e : FlatEqn) : Type 0 where
  pub targets : All (λ x. x < n) e.targets
  pub clock : All (λ s. s.0 < n) e.clock
  pub right : RightWithin n e.right
  pub restart : All (λ x. x < n) e.restart

-- All numbers of variables in a node are those of its variables.
pub record IsInRange (f : FlatNode) : Type 0 where
  pub inputs : f.inputs ≤ length f.variables
  pub outputs : All (λ x. x < length f.variables) f.outputs
  pub eqns : All (EqnWithin (length f.variables)) f.eqns
