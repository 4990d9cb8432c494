-- The node of a controller: a stateless node whose outputs are functions of its inputs, all truth values. The functions are given as lines of diagrams, which may be unreduced and out of order.
-- Source: own. A step asks it between the early and the late values of an instant, after Delaval, Marchand and Rutten (LCTES 2010); one line is one choice between two values, after Bryant (1986).
use Rattle.std.specs.Prelude.{ℕ, zero, suc, ◌+◌, nat_lt, if◌then◌else◌, true, false, List, [], ◌∷◌, ◌++◌, length, map, codes, decimal}
use Rattle.std.specs.List.{range_with_len}
use Rattle.hp_base.specs.declared.value.Value.TheVariants.{B}
use Rattle.hp_obc.specs.declared.command.ObcOp.{ObcOp}
use Rattle.hp_obc.specs.declared.command.ObcOp.TheVariants.{Copy, Mux}
use Rattle.hp_flat.specs.declared.equation.Atom.{Atom}
use Rattle.hp_flat.specs.declared.equation.Atom.TheVariants.{Variable as Read, Value as Fixed}
use Rattle.hp_flat.specs.declared.node.FlatTy.{FlatTy}
use Rattle.hp_flat.specs.declared.node.FlatTy.TheVariants.{Bool}
use Rattle.hp_flat.specs.declared.node.Variable.{Variable}
use Rattle.hp_flat.specs.Equations.{operator, FlatEqn}
use Rattle.hp_flat.specs.Nodes.{FlatNode}
use Rattle.hp_quant.specs.declared.line.Line.{Line}

-- What a number of the lines is, behind so many inputs, where so many lines stand before: 0 is false, 1 is true, and 2 is the first line. A number of none counts as false,
abbrev pub atom_at : ℕ → ℕ → ℕ → Atom
atom_at inputs count zero = Fixed (B false)
atom_at inputs count (suc zero) = Fixed (B true)
atom_at inputs count (suc (suc i)) = if nat_lt i count then Read (inputs + i) else Fixed (B false)

-- and so does a variable that is no input.
abbrev pub test_at : ℕ → ℕ → Atom
test_at inputs x = if nat_lt x inputs then Read x else Fixed (B false)

-- a line whose variable has another number
abbrev pub moved : (ℕ → ℕ) → Line → Line
moved to l = record { var = to l.var; low = l.low; high = l.high }

-- the equation of a variable, on the base clock
abbrev pub equation : ℕ → ℕ → ObcOp → List Atom → FlatEqn
equation at target op args = record { targets = target ∷ []; clock = []; right = operator op args; restart = []; at = at }

-- a line: the one value where its variable is true, and the other one elsewhere
abbrev pub line_eqn : ℕ → ℕ → Line → FlatEqn
line_eqn inputs i l = equation i (inputs + i) Mux (test_at inputs l.var ∷ atom_at inputs i l.high ∷ atom_at inputs i l.low ∷ [])

abbrev pub line_eqns : ℕ → ℕ → List Line → List FlatEqn
line_eqns inputs i [] = []
line_eqns inputs i (l ∷ ls) = line_eqn inputs i l ∷ line_eqns inputs (i + 1) ls

-- an output behind so many lines: the value of a number of these
abbrev pub output_eqn : ℕ → ℕ → ℕ → ℕ → FlatEqn
output_eqn inputs lines i number = equation i (inputs + i) Copy (atom_at inputs lines number ∷ [])

abbrev pub output_eqns : ℕ → ℕ → ℕ → List ℕ → List FlatEqn
output_eqns inputs lines i [] = []
output_eqns inputs lines i (n ∷ ns) = output_eqn inputs lines i n ∷ output_eqns inputs lines (i + 1) ns

-- a variable that is added to a node, named by its number; no name of a source text holds the sign
abbrev pub added_variable : ℕ → FlatTy → Variable
added_variable x ty = record { name = codes "b$x" ++ decimal x; ty = ty }

-- a variable, named by its number
abbrev pub bit_variable : ℕ → Variable
bit_variable x = record { name = codes "b" ++ decimal x; ty = Bool }

-- The node: behind the inputs stand the lines, and behind them the outputs.
abbrev pub node_of_lines : List ℕ → ℕ → List Line → List ℕ → FlatNode
node_of_lines name inputs lines numbers = record {
  name = name;
  variables = map bit_variable (range_with_len 0 (inputs + length lines + length numbers));
  inputs = inputs;
  outputs = range_with_len (inputs + length lines) (length numbers);
  eqns = line_eqns inputs 0 lines ++ output_eqns inputs (length lines) (length lines) numbers;
}
