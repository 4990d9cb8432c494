-- Nodes of clocked equations as plain data.
use Rattle.std.specs.Prelude.{ℕ, List}
use Rattle.hp_flat.specs.declared.node.Variable.{Variable}
use Rattle.hp_flat.specs.Equations.{FlatEqn}

-- a node: its variables are known by their numbers, of which the first ones are its inputs
pub record FlatNode : Type 0 where
  pub name : List ℕ
  pub variables : List Variable
  pub inputs : ℕ
  pub outputs : List ℕ
  pub eqns : List FlatEqn
