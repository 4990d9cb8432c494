-- What clocked equations have whose machines have form.
use Rattle.std.specs.Prelude.{◌≡◌, ◌≤◌, ◌^◌, ◌⊎◌, ℕ, true, false, nat_eq, List, [], ◌∷◌, length, Some, None, IsTrue}
use Rattle.std.specs.List.{AllByRecursion, IsDistinct}
use Rattle.std.specs.Str.{bytes_eq}
use Rattle.hp_obc.specs.Form.{is_name, has_name, machine_named, var_kinds}
use Rattle.hp_obc.specs.Machines.{ObcType, Machine}
use Rattle.hp_flat.specs.declared.node.Variable.{Variable}
use Rattle.hp_flat.specs.Equations.{Clock, Right, called, FlatEqn}
use Rattle.hp_flat.specs.Nodes.{FlatNode}
use Rattle.law_equations.specs.Meaning.Kinding.{HasValue, Callees, EqnKinds, kinds_at}
use Rattle.law_equations.specs.Meaning.Reactions.{has, inputs_of}
use Rattle.law_equations.specs.Meaning.Scheduling.{IsRanked, IsWithin, DefinesNoInput}
use Rattle.law_equations.specs.Meaning.Solving.{TargetsDiffer}
use Rattle.law_equations.specs.Followed.Premises.{IsOwn, names}
use Rattle.law_equations.specs.Followed.Programs.{CallsOnly}

-- ---- clocks that part

-- Two clocks part: behind the same steps they ask one variable for different constructors, so no instant is there for both.
abbrev pub Part : Clock → Clock → Type 0
Part [] clock = ⊥
Part (on ∷ clock) [] = ⊥
Part (on ∷ first) (other ∷ second) = (on.0 ≡ other.0) × ((nat_eq on.1 other.1 ≡ false) ⊎ ((on.1 ≡ other.1) × Part first second))

-- two equations that define one variable are the same, or their clocks part
abbrev pub AreApart : FlatEqn → FlatEqn → Type 0
AreApart d e = (x : ℕ) → has d.targets x ≡ true → has e.targets x ≡ true → (d ≡ e) ⊎ Part d.clock e.clock

-- so it is of all equations
abbrev pub DefineApart : List FlatEqn → Type 0
DefineApart es = AllByRecursion (λ (d : FlatEqn). AllByRecursion (AreApart d) es) es

-- ---- nodes

-- a clock has no more steps than cases may stand around a command
abbrev pub IsShort : FlatEqn → Type 0
IsShort e = length e.clock ≤ 300

-- What a node has that a machine is made of: kinds agree, numbers and names are in order, and variables are defined once wherever they are.
pub record NodeShape (types : List ObcType) (callees : Callees) (n : FlatNode) : Type 0 where
  pub name : IsTrue (is_name n.name)
  pub within : IsWithin n
  pub no_inputs : DefinesNoInput n
  -- outputs are no inputs, and each is given once
  pub outputs_behind : AllByRecursion (λ x. n.inputs ≤ x) n.outputs
  pub outputs_differ : IsDistinct nat_eq n.outputs
  pub kinds : AllByRecursion (EqnKinds types callees n.variables) n.eqns
  pub values : AllByRecursion (λ (v : Variable). HasValue types v.ty) n.variables
  pub targets_differ : TargetsDiffer n
  pub apart : DefineApart n.eqns
  pub short : AllByRecursion IsShort n.eqns
  -- names are names and differ, and no memory or instance has one of them
  pub names_good : AllByRecursion (λ x. IsTrue (is_name x)) (names n.variables)
  pub names_differ : IsDistinct bytes_eq (names n.variables)
  pub names_own : AllByRecursion IsOwn (names n.variables)
  -- there are no more places than names of memories and instances tell apart
  pub few : length n.eqns ≤ 10 ^ 13

-- ---- what is called

-- a node is called whose machine is there, and takes and gives what is said of the node
pub record IsCallable (types : List ObcType) (callees : Callees) (earlier : List Machine) (f : List ℕ) : Type 0 where
  pub name : IsTrue (is_name f)
  pub machine : Machine
  pub known : machine_named earlier f ≡ Some machine
  pub takes : var_kinds types machine.inputs ≡ Some (callees.takes f)
  pub gives : var_kinds types machine.outputs ≡ Some (callees.gives f)

abbrev pub CallIsKnown : List ObcType → Callees → List Machine → Right → Type 0
CallIsKnown types callees earlier (called f args) = IsCallable types callees earlier f
CallIsKnown types callees earlier right = Unit {0}

-- A node has shape behind earlier machines: it has a new name, and calls them.
pub record IsShaped (types : List ObcType) (callees : Callees) (earlier : List Machine) (n : FlatNode) : Type 0 where
  pub shape : NodeShape types callees n
  pub new : machine_named earlier n.name ≡ None
  pub calls : AllByRecursion (λ (e : FlatEqn). CallIsKnown types callees earlier e.right) n.eqns

-- ---- programs

-- what is said of a node is what it takes and gives
pub record IsHeaded (types : List ObcType) (callees : Callees) (n : FlatNode) : Type 0 where
  pub takes : callees.takes n.name ≡ kinds_at types n (inputs_of n)
  pub gives : callees.gives n.name ≡ kinds_at types n n.outputs

-- Each node has shape, ranks and another name than the nodes before it, and calls these alone.
abbrev pub AreShaped : List ObcType → Callees → List (List ℕ) → List FlatNode → Type 0
AreShaped types callees earlier [] = Unit {0}
AreShaped types callees earlier (n ∷ ns) =
    NodeShape types callees n × IsRanked n.eqns × IsHeaded types callees n × (has_name earlier n.name ≡ false) × CallsOnly earlier n.eqns × AreShaped types callees (n.name ∷ earlier) ns
