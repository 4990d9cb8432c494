-- When the clocks of clocked equations fit at an instant: whatever is read is there.
use Rattle.std.specs.Prelude.{ℕ, Bool, true, false, List, [], ◌∷◌, IsTrue}
use Rattle.std.specs.List.{AllByRecursion, flat_map}
use Rattle.hp_base.specs.Kinds.{KindData, AreOfKinds}
use Rattle.hp_base.specs.declared.value.Value.{Value}
use Rattle.hp_base.specs.declared.value.Value.TheVariants.{Absent, B, E}
use Rattle.hp_obc.specs.Steps.{Names}
use Rattle.hp_flat.specs.declared.equation.Atom.{Atom}
use Rattle.hp_flat.specs.declared.equation.Atom.TheVariants.{Variable, Value as Fixed}
use Rattle.hp_flat.specs.Equations.{Clock, Right, operator, register, called, FlatEqn}
use Rattle.hp_flat.specs.Nodes.{FlatNode}
use Rattle.law_equations.specs.Meaning.Instants.{Instant, has_constructor, holds, atoms}
use Rattle.law_equations.specs.Meaning.Reactions.{inputs_of}

abbrev pub is_there : Value → Bool
is_there Absent = false
is_there v = true

abbrev pub IsThere : Instant → ℕ → Type 0
IsThere now x = IsTrue (is_there (now x))

-- a value that a case can be over
abbrev pub is_choice : Value → Bool
is_choice (B b) = true
is_choice (E t c) = true
is_choice v = false

-- a truth value, or absent
abbrev pub is_flag : Value → Bool
is_flag (B b) = true
is_flag Absent = true
is_flag v = false

-- a variable of a clock can be chosen by where those before it have their constructors
abbrev pub ClockFits : Clock → Instant → Type 0
ClockFits [] now = Unit {0}
ClockFits (on ∷ clock) now = IsTrue (is_choice (now on.0)) × (IsTrue (has_constructor on.1 (now on.0)) → ClockFits clock now)

abbrev pub atom_variables : Atom → List ℕ
atom_variables (Variable x) = x ∷ []
atom_variables (Fixed v) = []

-- what an equation reads with its arguments, and its next value
abbrev pub operands : Right → List ℕ
operands (operator op args) = flat_map atom_variables args
operands (register first next) = atom_variables next
operands (called f args) = flat_map atom_variables args

-- the arguments of a call are of the kinds that the node takes
abbrev pub IsTaken : Names (List KindData) → Instant → Right → Type 0
IsTaken takes now (called f args) = AreOfKinds (takes f) (atoms now args)
IsTaken takes now right = Unit {0}

pub record EqnFits (takes : Names (List KindData)) (now : Instant) (e : FlatEqn) : Type 0 where
  pub clock : ClockFits e.clock now
  pub restart : AllByRecursion (λ x. IsTrue (is_flag (now x))) e.restart
  pub operands_there : IsTrue (holds e.clock now) → AllByRecursion (IsThere now) (operands e.right)
  pub targets_there : IsTrue (holds e.clock now) → AllByRecursion (IsThere now) e.targets
  pub args_taken : IsTrue (holds e.clock now) → IsTaken takes now e.right

-- The clocks of a node fit at an instant; `takes` says of which kinds the arguments of each node are.
pub record Fits (takes : Names (List KindData)) (n : FlatNode) (now : Instant) : Type 0 where
  pub inputs : AllByRecursion (IsThere now) (inputs_of n)
  pub outputs : AllByRecursion (IsThere now) n.outputs
  pub eqns : AllByRecursion (EqnFits takes now) n.eqns
