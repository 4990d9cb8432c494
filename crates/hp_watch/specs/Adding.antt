-- Variables and equations that are added to a node.
-- Source: own.
use Rattle.std.specs.Prelude.{ℕ, ◌+◌, List, [], ◌∷◌, ◌++◌, length, slice_get, Option, None, Some, codes, decimal, false, pos}
use Rattle.hp_base.specs.declared.value.Value.{Value}
use Rattle.hp_base.specs.declared.value.Value.TheVariants.{B, I, E}
use Rattle.hp_obc.specs.declared.command.ObcOp.{ObcOp}
use Rattle.hp_obc.specs.declared.command.ObcOp.TheVariants.{Copy}
use Rattle.hp_flat.specs.declared.equation.Atom.{Atom}
use Rattle.hp_flat.specs.declared.equation.Atom.TheVariants.{Variable as Read}
use Rattle.hp_flat.specs.declared.node.FlatTy.{FlatTy}
use Rattle.hp_flat.specs.declared.node.FlatTy.TheVariants.{Bool, Int, Enum}
use Rattle.hp_flat.specs.declared.node.Variable.{Variable}
use Rattle.hp_flat.specs.Equations.{Clock, FlatEqn, operator}
use Rattle.hp_flat.specs.Nodes.{FlatNode}

-- the type of a variable; of one that is not there that of no value that is given
abbrev pub type_of : Option Variable → FlatTy
type_of None = Int
type_of (Some v) = v.ty

abbrev pub type_at : FlatNode → ℕ → FlatTy
type_at n x = type_of (slice_get n.variables x)

-- the number of the next variable
abbrev pub next_variable : FlatNode → ℕ
next_variable n = length n.variables

-- a variable that is added, named by its number; no name of a source text holds the sign
abbrev pub added_variable : ℕ → FlatTy → Variable
added_variable x ty = record { name = codes "w$x" ++ decimal x; ty = ty }

-- the node with one more variable,
unfoldable pub with_variable : FlatTy → FlatNode → FlatNode
with_variable ty n = record { name = n.name; variables = n.variables ++ added_variable (next_variable n) ty ∷ []; inputs = n.inputs; outputs = n.outputs; eqns = n.eqns }

-- and with one more equation
unfoldable pub with_eqn : FlatEqn → FlatNode → FlatNode
with_eqn e n = record { name = n.name; variables = n.variables; inputs = n.inputs; outputs = n.outputs; eqns = n.eqns ++ e ∷ [] }

-- the equation of an operator on a clock, which remembers nothing
abbrev pub operator_eqn : ℕ → Clock → ObcOp → List Atom → FlatEqn
operator_eqn target clock op args = record { targets = target ∷ []; clock = clock; right = operator op args; restart = []; at = 0 }

-- the node with a variable that an operator on the base clock gives its value
abbrev pub with_operator : FlatTy → ObcOp → List Atom → FlatNode → FlatNode
with_operator ty op args n = with_eqn (operator_eqn (next_variable n) [] op args) (with_variable ty n)

-- the node with a truth value more that has the value of another one
abbrev pub with_copy : ℕ → FlatNode → FlatNode
with_copy x n = with_operator Bool Copy (Read x ∷ []) n

-- a value of a type: what a variable holds where its clock is not there
abbrev pub some_value : FlatTy → Value
some_value Bool = B false
some_value Int = I (pos 0)
some_value (Enum t) = E t 0
