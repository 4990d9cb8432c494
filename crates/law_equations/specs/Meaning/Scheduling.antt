-- Clocked equations in an order in which they can be done one after the other.
use Rattle.std.specs.Prelude.{◌≡◌, ◌<◌, ◌≤◌, ℕ, true, false, List, [], ◌∷◌, ◌++◌, length, map}
use Rattle.std.specs.List.{AllByRecursion, flat_map}
use Rattle.std.specs.List.Sorted.{IsNonDecreasingBy}
use Rattle.hp_flat.specs.Equations.{Clock, Right, operator, register, called, FlatEqn}
use Rattle.hp_flat.specs.Nodes.{FlatNode}
use Rattle.law_equations.specs.Meaning.Reactions.{has}
use Rattle.law_equations.specs.Meaning.Fitting.{atom_variables, operands}

abbrev pub clock_variables : Clock → List ℕ
clock_variables clock = map (λ (on : ℕ × ℕ). on.0) clock

-- what gives values reads at its place: its arguments, but not the next value of a register
abbrev pub right_reads : Right → List ℕ
right_reads (operator op args) = flat_map atom_variables args
right_reads (register first next) = []
right_reads (called f args) = flat_map atom_variables args

-- an equation reads its clock, its restart list and its arguments
abbrev pub reads : FlatEqn → List ℕ
reads e = clock_variables e.clock ++ (e.restart ++ right_reads e.right)

-- a variable is defined by none of some equations
abbrev pub IsUndefined : List FlatEqn → ℕ → Type 0
IsUndefined es x = AllByRecursion (λ (e : FlatEqn). has e.targets x ≡ false) es

-- What an equation reads is defined neither by itself nor by a later one.
abbrev pub IsScheduled : List FlatEqn → Type 0
IsScheduled [] = Unit {0}
IsScheduled (e ∷ es) = AllByRecursion (IsUndefined (e ∷ es)) (reads e) × IsScheduled es

-- ---- places and ranks

-- No equation has a lesser place than one before it.
abbrev pub IsInOrder : List FlatEqn → Type 0
IsInOrder es = IsNonDecreasingBy (λ (e : FlatEqn). e.at) es

-- the equations that define a variable have less rank than an equation
abbrev pub IsDefinedBelow : List FlatEqn → FlatEqn → ℕ → Type 0
IsDefinedBelow es e x = AllByRecursion (λ (d : FlatEqn). has d.targets x ≡ true → d.at < e.at) es

-- Each equation reads equations of less rank.
abbrev pub IsRanked : List FlatEqn → Type 0
IsRanked es = AllByRecursion (λ (e : FlatEqn). AllByRecursion (IsDefinedBelow es e) (reads e)) es

-- ---- numbers

abbrev pub AreBelow : ℕ → List ℕ → Type 0
AreBelow n xs = AllByRecursion (λ x. x < n) xs

-- the numbers in an equation are those of the first n variables
pub record EqnWithin (n : ℕ) (e : FlatEqn) : Type 0 where
  pub targets : AreBelow n e.targets
  pub clock : AreBelow n (clock_variables e.clock)
  pub operands : AreBelow n (operands e.right)
  pub restart : AreBelow n e.restart

-- the numbers in a node are those of its variables
pub record IsWithin (n : FlatNode) : Type 0 where
  pub inputs : n.inputs ≤ length n.variables
  pub outputs : AreBelow (length n.variables) n.outputs
  pub eqns : AllByRecursion (EqnWithin (length n.variables)) n.eqns

-- no input is defined by an equation
abbrev pub DefinesNoInput : FlatNode → Type 0
DefinesNoInput n = AllByRecursion (λ (e : FlatEqn). AllByRecursion (λ x. n.inputs ≤ x) e.targets) n.eqns
