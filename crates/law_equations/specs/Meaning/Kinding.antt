-- When the kinds of a node agree and its clocks fit whatever the values are; and that such a node has one reaction.
use Rattle.std.specs.Prelude.{◌≡◌, ℕ, ◌<◌, Bool, true, false, ◌||◌, nat_lt, List, [], ◌∷◌, length, get_or, map, Some, IsTrue}
use Rattle.std.specs.List.{AllByRecursion}
use Rattle.hp_base.specs.Kinds.{KindData, Bools, Ints, Constructors, IsOfKind, AreOfKinds}
use Rattle.hp_base.specs.declared.value.Value.{Value}
use Rattle.hp_base.specs.declared.value.Value.TheVariants.{Absent}
use Rattle.hp_obc.specs.Form.{result_kind}
use Rattle.hp_obc.specs.Machines.{ObcType}
use Rattle.hp_obc.specs.Steps.{Names}
use Rattle.hp_flat.specs.declared.equation.Atom.{Atom}
use Rattle.hp_flat.specs.declared.equation.Atom.TheVariants.{Variable as Named, Value as Fixed}
use Rattle.hp_flat.specs.declared.node.FlatTy.{FlatTy}
use Rattle.hp_flat.specs.declared.node.FlatTy.TheVariants.{Bool as FlatBool, Int as FlatInt, Enum as FlatEnum}
use Rattle.hp_flat.specs.declared.node.Variable.{Variable}
use Rattle.hp_flat.specs.Equations.{Clock, Right, operator, register, called, FlatEqn}
use Rattle.hp_flat.specs.Nodes.{FlatNode}
use Rattle.law_equations.specs.Meaning.Instants.{Instant, has_constructor, holds}
use Rattle.law_equations.specs.Meaning.Reactions.{Answers, is_set, inputs_of, Reaction, outputs_at}
use Rattle.law_equations.specs.Meaning.Fitting.{IsThere, operands, Fits}
use Rattle.law_equations.specs.Meaning.Scheduling.{IsRanked, DefinesNoInput}
use Rattle.law_equations.specs.Meaning.Solving.{IsExclusive, TargetsDiffer}

-- ---- kinds

-- the constructors of a type by its number; none where there is none
abbrev pub constructors : List ObcType → ℕ → List (List ℕ)
constructors types t = (get_or types t (record { name = []; cons = [] })).cons

abbrev pub kind_of_type : List ObcType → FlatTy → KindData
kind_of_type types FlatBool = Bools
kind_of_type types FlatInt = Ints
kind_of_type types (FlatEnum t) = Constructors t (constructors types t)

abbrev pub variable_kind : List ObcType → List Variable → ℕ → KindData
variable_kind types variables x = kind_of_type types (get_or variables x (record { name = []; ty = FlatInt })).ty

-- a kind is that of a type
abbrev pub IsTyped : List ObcType → KindData → Type 0
IsTyped types (Constructors t cons) = cons ≡ constructors types t
IsTyped types k = Unit {0}

-- a type has a value
abbrev pub HasValue : List ObcType → FlatTy → Type 0
HasValue types (FlatEnum t) = 0 < length (constructors types t)
HasValue types ty = Unit {0}

-- a case over values of a kind has an arm of this number
abbrev pub HasArm : KindData → ℕ → Type 0
HasArm Bools c = c < 2
HasArm Ints c = ⊥
HasArm (Constructors t cons) c = c < length cons

-- the kinds of what nodes take, and of what they give
pub record Callees : Type 0 where
  pub takes : Names (List KindData)
  pub gives : Names (List KindData)

module _ (types : List ObcType) (callees : Callees) (variables : List Variable) where
  -- a variable or a constant is of a kind
  abbrev pub AtomHasKind : Atom → KindData → Type 0
  AtomHasKind (Named x) k = variable_kind types variables x ≡ k
  AtomHasKind (Fixed v) k = IsOfKind k v × IsTyped types k

  abbrev pub HaveKinds : List Atom → List KindData → Type 0
  HaveKinds [] [] = Unit {0}
  HaveKinds (a ∷ args) (k ∷ ks) = AtomHasKind a k × HaveKinds args ks
  HaveKinds args ks = ⊥

  -- what gives values gives values of some kinds
  abbrev pub RightHasKinds : Right → List KindData → Type 0
  RightHasKinds (operator op args) ks = (js : List KindData) × HaveKinds args js × (k : KindData) × (result_kind op js ≡ Some k) × (ks ≡ k ∷ [])
  RightHasKinds (register first next) ks = (k : KindData) × IsOfKind k first × AtomHasKind next k × (ks ≡ k ∷ [])
  RightHasKinds (called f args) ks = HaveKinds args (callees.takes f) × (ks ≡ callees.gives f)

  pub record EqnKinds (e : FlatEqn) : Type 0 where
    pub right : RightHasKinds e.right (map (variable_kind types variables) e.targets)
    pub clock : AllByRecursion (λ (on : ℕ × ℕ). HasArm (variable_kind types variables on.0) on.1) e.clock
    pub restart : AllByRecursion (λ x. variable_kind types variables x ≡ Bools) e.restart

-- ---- possible instants

-- an input, or a variable that an equation defines that is there
abbrev pub is_present : FlatNode → Instant → ℕ → Bool
is_present n now x = nat_lt x n.inputs || is_set n.eqns now x

abbrev pub OptionallyOf : Bool → KindData → Value → Type 0
OptionallyOf true k v = IsOfKind k v
OptionallyOf false k v = v ≡ Absent

-- Each input is there, and each other variable exactly where the clock of one of its equations holds, with a value of its kind.
abbrev pub IsPossible : List ObcType → FlatNode → Instant → Type 0
IsPossible types n now = (x : ℕ) → OptionallyOf (is_present n now x) (variable_kind types n.variables x) (now x)

-- a variable of a clock is there where those before it have their constructors
abbrev pub ClockIsThere : Clock → Instant → Type 0
ClockIsThere [] now = Unit {0}
ClockIsThere (on ∷ clock) now = IsThere now on.0 × (IsTrue (has_constructor on.1 (now on.0)) → ClockIsThere clock now)

-- What is read is there, and no two equations that are there define one variable.
pub record ClocksFit (n : FlatNode) (now : Instant) : Type 0 where
  pub outputs : AllByRecursion (IsThere now) n.outputs
  pub clocks : AllByRecursion (λ (e : FlatEqn). ClockIsThere e.clock now) n.eqns
  pub operands_there : AllByRecursion (λ (e : FlatEqn). IsTrue (holds e.clock now) → AllByRecursion (IsThere now) (operands e.right)) n.eqns
  pub exclusive : IsExclusive now n.eqns

-- ---- nodes

pub record IsWellMade (types : List ObcType) (callees : Callees) (n : FlatNode) : Type 0 where
  pub ranked : IsRanked n.eqns
  pub no_inputs : DefinesNoInput n
  pub targets_differ : TargetsDiffer n
  pub values : AllByRecursion (λ (v : Variable). HasValue types v.ty) n.variables
  pub kinds : AllByRecursion (EqnKinds types callees n.variables) n.eqns
  pub fit : (now : Instant) → IsPossible types n now → ClocksFit n now

-- nodes answer with values of their kinds
abbrev pub AnswersOfKinds : Answers → Callees → Type 0
AnswersOfKinds answers callees =
    (f : List ℕ) (args : List Value) (earlier : List (List Value)) → AreOfKinds (callees.takes f) args → AllByRecursion (AreOfKinds (callees.takes f)) earlier → AreOfKinds (callees.gives f) (answers f args earlier)

abbrev pub kinds_at : List ObcType → FlatNode → List ℕ → List KindData
kinds_at types n xs = map (variable_kind types n.variables) xs

-- inputs are of their kinds
abbrev pub AllOfKinds : List ObcType → FlatNode → List (List Value) → Type 0
AllOfKinds types n inputs = AllByRecursion (AreOfKinds (kinds_at types n (inputs_of n))) inputs

-- There is exactly one reaction; its instants are possible, and clocks fit.
pub record OneReaction (types : List ObcType) (callees : Callees) (answers : Answers) (n : FlatNode) (inputs : List (List Value)) : Type 0 where
  pub instants : List Instant
  pub reaction : Reaction answers n inputs instants
  pub possible : AllByRecursion (IsPossible types n) instants
  pub fit : AllByRecursion (Fits callees.takes n) instants
  pub only : (others : List Instant) → Reaction answers n inputs others → others ≡ instants

abbrev pub OneReactionLaw : Type 0
OneReactionLaw =
    (types : List ObcType) (callees : Callees) (answers : Answers) (n : FlatNode) → IsWellMade types callees n → AnswersOfKinds answers callees → (inputs : List (List Value)) → AllOfKinds types n inputs
    → OneReaction types callees answers n inputs

-- The outputs of its instants are of their kinds.
abbrev pub OutputsOfKindsLaw : Type 0
OutputsOfKindsLaw =
    (types : List ObcType) (callees : Callees) (n : FlatNode) → IsWellMade types callees n → (now : Instant) → IsPossible types n now → AreOfKinds (kinds_at types n n.outputs) (outputs_at n now)
