-- Nodes to which more is added.
-- Source: own.
use Rattle.std.specs.Prelude.{◌≡◌, ℕ, List, ◌++◌}
use Rattle.std.specs.List.{AllByRecursion}
use Rattle.hp_flat.specs.declared.node.FlatTy.TheVariants.{Bool}
use Rattle.hp_flat.specs.declared.node.Variable.{Variable}
use Rattle.hp_flat.specs.Equations.{FlatEqn}
use Rattle.hp_flat.specs.Nodes.{FlatNode}
use Rattle.hp_watch.specs.Adding.{type_at}
use Rattle.hp_watch.specs.Watching.{Watched}

-- A node with more: its name, inputs and outputs stay, and so do its variables and equations, behind which more stand.
pub record Grows (n other : FlatNode) : Type 0 where
  pub name : other.name ≡ n.name
  pub inputs : other.inputs ≡ n.inputs
  pub outputs : other.outputs ≡ n.outputs
  pub variables : (more : List Variable) × (other.variables ≡ n.variables ++ more)
  pub eqns : (more : List FlatEqn) × (other.eqns ≡ n.eqns ++ more)

-- some variables are truth values of the node
abbrev pub AreTruths : FlatNode → List ℕ → Type 0
AreTruths n xs = AllByRecursion (λ x. type_at n x ≡ Bool) xs

-- A node that is watched has more than another one, and its bits are truth values.
pub record IsLarger (n : FlatNode) (w : Watched) : Type 0 where
  pub grows : Grows n w.node
  pub early : AreTruths w.node w.early
  pub late : AreTruths w.node w.late
