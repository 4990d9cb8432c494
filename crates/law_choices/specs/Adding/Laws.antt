-- Equations that are added keep a node well made.
-- Source: own.
use Rattle.std.specs.Prelude.{codes, ◌++◌, ℕ, List, [], ◌∷◌}
use Rattle.hp_obc.specs.Machines.{ObcType}
use Rattle.hp_obc.specs.declared.command.ObcOp.TheVariants.{Copy}
use Rattle.hp_flat.specs.declared.equation.Atom.TheVariants.{Variable as Read}
use Rattle.hp_flat.specs.declared.node.FlatTy.TheVariants as flat
use Rattle.hp_flat.specs.Equations.{Clock, operator, FlatEqn}
use Rattle.hp_flat.specs.Nodes.{FlatNode}
use Rattle.law_equations.specs.Meaning.Kinding.{Callees, IsWellMade}
use Rattle.law_equations.specs.Meaning.Scheduling.{IsRanked}
use Rattle.law_equations.specs.Shaped.Shaped.{NodeShape}
use Rattle.law_choices.specs.Closed.Closed.{IsClosed}
use Rattle.law_choices.specs.Closed.Clocking.{AreClocks, by_cases}
use Rattle.law_choices.specs.Closed.Exclusive.{IsParted}
use Rattle.law_choices.specs.Adding.Adding.{IsWellBuilt, ClocksAgree, Adds}

-- A node that has shape, is closed, defines nothing twice and has clocks is well built.
abbrev pub BuiltLaw : Type 0
BuiltLaw = (types : List ObcType) (callees : Callees) (clock : ℕ → Clock) (n : FlatNode) → NodeShape types callees n → IsClosed n → IsParted n → AreClocks n types clock → IsWellBuilt types callees clock n

-- Where equations are added to one that is, it stays so.
abbrev pub AddingLaw : Type 0
AddingLaw =
    (types : List ObcType) (callees : Callees) (n other : FlatNode) (more : List FlatEqn) (clock clocks : ℕ → Clock) → Adds types callees n other more → ClocksAgree types n other more clock clocks
    → IsWellBuilt types callees clock n → IsWellBuilt types callees clocks other

-- With ranks it is well made.
abbrev pub OrderedLaw : Type 0
OrderedLaw = (types : List ObcType) (callees : Callees) (clock : ℕ → Clock) (n : FlatNode) → IsWellBuilt types callees clock n → IsRanked n.eqns → IsWellMade types callees n

-- ---- a copy of a variable, added to a node with two cases

abbrev pub copied : FlatEqn
copied = record { targets = 2 ∷ []; clock = []; right = operator Copy (Read 1 ∷ []); restart = []; at = 2 }

abbrev pub with_copy : FlatNode
with_copy = record by_cases { variables = by_cases.variables ++ record { name = codes "y"; ty = flat.Bool } ∷ []; outputs = 2 ∷ []; eqns = by_cases.eqns ++ copied ∷ [] }

-- It has been added, whatever is called.
abbrev pub SomeAddingLaw : Type 0
SomeAddingLaw = (callees : Callees) → Adds [] callees by_cases with_copy (copied ∷ []) × ClocksAgree [] by_cases with_copy (copied ∷ []) (λ x. []) (λ x. [])
