-- Equations on the base clock that are added to a node.
-- Source: own.
use Rattle.std.specs.Prelude.{◌≡◌, ℕ, ◌≤◌, nat_eq, nat_lt, if◌then◌else◌, List, [], ◌++◌, length, Contains}
use Rattle.std.specs.List.{AllByRecursion, IsDistinct, flat_map}
use Rattle.hp_obc.specs.Machines.{ObcType}
use Rattle.hp_flat.specs.declared.node.Variable.{Variable}
use Rattle.hp_flat.specs.Equations.{Clock, FlatEqn}
use Rattle.hp_flat.specs.Nodes.{FlatNode}
use Rattle.law_equations.specs.Meaning.Fitting.{operands}
use Rattle.law_equations.specs.Meaning.Kinding.{Callees, EqnKinds, HasValue}
use Rattle.law_equations.specs.Meaning.Scheduling.{EqnWithin, AreBelow}
use Rattle.law_choices.specs.Adding.Adding.{IsNewIn, ClocksAgree, Adds}

-- what equations define, in order
abbrev pub targets_of : List FlatEqn → List ℕ
targets_of es = flat_map (λ (e : FlatEqn). e.targets) es

-- The variables of a node keep their clocks, but for its inputs; these and new ones are on the base clock.
abbrev pub based : FlatNode → (ℕ → Clock) → ℕ → Clock
based n clock x = if nat_lt x n.inputs then [] else (if nat_lt x (length n.variables) then clock x else [])

-- The other node has more variables, and equations on the base clock that define these and each of them once. They read what is on the base clock.
pub record AddsOnBase (types : List ObcType) (callees : Callees) (n other : FlatNode) (more : List FlatEqn) (clock : ℕ → Clock) : Type 0 where
  pub added : List Variable
  pub variables : other.variables ≡ n.variables ++ added
  pub inputs : other.inputs ≤ n.inputs
  pub eqns : other.eqns ≡ n.eqns ++ more
  pub outputs : AreBelow (length other.variables) other.outputs
  pub outputs_on_base : AllByRecursion (λ x. based n clock x ≡ []) other.outputs
  pub base : AllByRecursion (λ (e : FlatEqn). e.clock ≡ []) more
  pub within : AllByRecursion (EqnWithin (length other.variables)) more
  pub new : AllByRecursion (IsNewIn n other) (targets_of more)
  pub defined : (x : ℕ) → IsNewIn n other x → Contains (targets_of more) x
  pub distinct : IsDistinct nat_eq (targets_of more)
  pub values : AllByRecursion (λ (v : Variable). HasValue types v.ty) added
  pub kinds : AllByRecursion (EqnKinds types callees other.variables) more
  pub reads : AllByRecursion (λ (e : FlatEqn). AllByRecursion (λ x. based n clock x ≡ []) (operands e.right)) more

-- So they are added, and clocks agree.
abbrev pub BaseLaw : Type 0
BaseLaw =
    (types : List ObcType) (callees : Callees) (n other : FlatNode) (more : List FlatEqn) (clock : ℕ → Clock) → n.inputs ≤ length n.variables → AddsOnBase types callees n other more clock
    → Adds types callees n other more × ClocksAgree types n other more clock (based n clock)
