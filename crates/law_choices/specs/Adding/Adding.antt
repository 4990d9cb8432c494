-- Equations that are added to a node: they define new variables, and some of its last inputs.
-- Source: own; that a variable has a clock, a path of tested variables, is as in Biernacki and others: Clock-directed modular code generation (LCTES 2008).
use Rattle.std.specs.Prelude.{◌≡◌, ◌≤◌, ◌<◌, ◌⊎◌, ℕ, List, [], ◌++◌, length}
use Rattle.std.specs.List.{AllByRecursion, IsDistinct}
use Rattle.std.specs.Prelude.{nat_eq}
use Rattle.hp_obc.specs.Machines.{ObcType}
use Rattle.hp_flat.specs.declared.node.Variable.{Variable}
use Rattle.hp_flat.specs.Equations.{Clock, FlatEqn}
use Rattle.hp_flat.specs.Nodes.{FlatNode}
use Rattle.law_equations.specs.Meaning.Fitting.{operands}
use Rattle.law_equations.specs.Meaning.Kinding.{Callees, EqnKinds, HasValue}
use Rattle.law_equations.specs.Meaning.Scheduling.{EqnWithin, IsWithin, AreBelow, DefinesNoInput}
use Rattle.law_equations.specs.Meaning.Solving.{TargetsDiffer}
use Rattle.law_choices.specs.Closed.Closed.{IsTarget, IsClosed}
use Rattle.law_choices.specs.Closed.Clocking.{IsFrontOf, IsDefinedOn, StepsStand, IsSplit, AreClocks}
use Rattle.law_choices.specs.Closed.Exclusive.{AreParted, IsParted}

-- All that a well-made node has but an order of its equations, where its variables have these clocks.
pub record IsWellBuilt (types : List ObcType) (callees : Callees) (clock : ℕ → Clock) (n : FlatNode) : Type 0 where
  pub within : IsWithin n
  pub no_inputs : DefinesNoInput n
  pub targets_differ : TargetsDiffer n
  pub values : AllByRecursion (λ (v : Variable). HasValue types v.ty) n.variables
  pub kinds : AllByRecursion (EqnKinds types callees n.variables) n.eqns
  pub closed : IsClosed n
  pub parted : IsParted n
  pub clocks : AreClocks n types clock

-- a variable that the added equations have to define: an input that the other node does not take, or a new one
abbrev pub IsNewIn : FlatNode → FlatNode → ℕ → Type 0
IsNewIn n other x = ((other.inputs ≤ x) × (x < n.inputs)) ⊎ ((length n.variables ≤ x) × (x < length other.variables))

-- The clocks of the variables of both agree, but for inputs, which are on the base clock. The added equations read what is there where they are, and define what is new wherever its clock holds.
pub record ClocksAgree (types : List ObcType) (n other : FlatNode) (more : List FlatEqn) (clock clocks : ℕ → Clock) : Type 0 where
  pub own : (x : ℕ) → n.inputs ≤ x → x < length n.variables → clocks x ≡ clock x
  pub inputs : (x : ℕ) → x < n.inputs → clocks x ≡ []
  pub outputs : AllByRecursion (λ x. clocks x ≡ []) other.outputs
  pub steps : AllByRecursion (λ (e : FlatEqn). StepsStand other types clocks [] e.clock) more
  pub reads : AllByRecursion (λ (e : FlatEqn). AllByRecursion (λ x. IsFrontOf (clocks x) e.clock) (operands e.right)) more
  pub defined : (x : ℕ) → IsTarget more x → IsDefinedOn other x (clocks x) ⊎ IsSplit other types clocks x

-- The other node has more variables and equations, and may take fewer inputs. These equations define what is new and nothing else, and agree in kinds.
pub record Adds (types : List ObcType) (callees : Callees) (n other : FlatNode) (more : List FlatEqn) : Type 0 where
  pub added : List Variable
  pub variables : other.variables ≡ n.variables ++ added
  pub inputs : other.inputs ≤ n.inputs
  pub eqns : other.eqns ≡ n.eqns ++ more
  pub outputs : AreBelow (length other.variables) other.outputs
  pub within : AllByRecursion (EqnWithin (length other.variables)) more
  pub new : AllByRecursion (λ (e : FlatEqn). AllByRecursion (IsNewIn n other) e.targets) more
  pub defined : (x : ℕ) → IsNewIn n other x → IsTarget more x
  pub differ : AllByRecursion (λ (e : FlatEqn). IsDistinct nat_eq e.targets) more
  pub values : AllByRecursion (λ (v : Variable). HasValue types v.ty) added
  pub kinds : AllByRecursion (EqnKinds types callees other.variables) more
  pub parted : AreParted more
