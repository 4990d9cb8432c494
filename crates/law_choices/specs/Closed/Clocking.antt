-- Clocked equations whose variables have clocks: whatever is read is there then, whatever the values are.
-- Source: own; that a variable has a clock, a path of tested variables, is as in Biernacki and others: Clock-directed modular code generation (LCTES 2008).
use Rattle.std.specs.Prelude.{codes, ⊤, ◌≡◌, ◌⊎◌, ℕ, List, [], ◌∷◌, ◌++◌, Contains}
use Rattle.std.specs.List.{AllByRecursion}
use Rattle.hp_obc.specs.Machines.{ObcType}
use Rattle.hp_obc.specs.declared.command.ObcOp.TheVariants.{Copy}
use Rattle.hp_flat.specs.declared.equation.Atom.TheVariants.{Variable}
use Rattle.hp_flat.specs.declared.node.FlatTy.TheVariants as flat
use Rattle.hp_flat.specs.Equations.{Clock, Right, operator, register, called, FlatEqn}
use Rattle.hp_flat.specs.Nodes.{FlatNode}
use Rattle.law_equations.specs.Meaning.Fitting.{operands}
use Rattle.law_equations.specs.Meaning.Instants.{Instant}
use Rattle.law_equations.specs.Meaning.Kinding.{Callees, HasArm, variable_kind, IsPossible, ClocksFit, IsWellMade}
use Rattle.law_equations.specs.Meaning.Scheduling.{IsRanked}
use Rattle.law_equations.specs.Shaped.Shaped.{NodeShape}
use Rattle.law_choices.specs.Closed.Closed.{IsTarget, IsClosed}
use Rattle.law_choices.specs.Closed.Exclusive.{IsAlwaysExclusive}

-- one clock is the first part of another
abbrev pub IsFrontOf : Clock → Clock → Type 0
IsFrontOf c d = (more : Clock) × (d ≡ c ++ more)

module _ (n : FlatNode) where
  -- some equation defines a variable on a clock
  abbrev pub IsDefinedOn : ℕ → Clock → Type 0
  IsDefinedOn x c = (e : FlatEqn) × Contains n.eqns e × Contains e.targets x × (e.clock ≡ c)

  module _ (types : List ObcType) (clock : ℕ → Clock) where
    -- behind some first steps of a clock, each variable that is tested is there where the steps before it hold
    abbrev pub StepsStand : Clock → Clock → Type 0
    StepsStand before [] = ⊤
    StepsStand before (on ∷ rest) = IsFrontOf (clock on.0) before × StepsStand (before ++ on ∷ []) rest

    -- Some variable is tested where the clock of this one holds, and for each of its constructors an equation defines this one, one step further.
    pub record IsSplit (x : ℕ) : Type 0 where
      pub tested : ℕ
      pub there : IsFrontOf (clock tested) (clock x)
      pub has_one : HasArm (variable_kind types n.variables tested) 0
      pub arms : (c : ℕ) → HasArm (variable_kind types n.variables tested) c → IsDefinedOn x (clock x ++ (tested, c) ∷ [])

    -- These are the clocks of the variables: outputs are on the base clock, what is read is there where its equation is, and what is defined is defined wherever its clock holds.
    pub record AreClocks : Type 0 where
      pub outputs : AllByRecursion (λ x. clock x ≡ []) n.outputs
      pub steps : AllByRecursion (λ (e : FlatEqn). StepsStand [] e.clock) n.eqns
      pub reads : AllByRecursion (λ (e : FlatEqn). AllByRecursion (λ x. IsFrontOf (clock x) e.clock) (operands e.right)) n.eqns
      pub defined : (x : ℕ) → IsTarget n.eqns x → IsDefinedOn x (clock x) ⊎ IsSplit x

-- what gives a value only copies one
abbrev pub IsCopy : Right → Type 0
IsCopy (operator Copy args) = ⊤
IsCopy (operator op args) = ⊥
IsCopy (register first next) = ⊥
IsCopy (called f args) = ⊥

-- an equation defines variables of its own clock, but for a copy, which may define one case of a variable
abbrev pub DefinesOwn : (ℕ → Clock) → FlatEqn → Type 0
DefinesOwn clock e = AllByRecursion (λ x. (clock x ≡ e.clock) ⊎ IsCopy e.right) e.targets

-- the variables of a node have clocks
abbrev pub HasClocks : List ObcType → FlatNode → Type 0
HasClocks types n = (clock : ℕ → Clock) × AreClocks n types clock

-- and each equation that is no copy defines variables of its own clock
pub record HasOwnClocks (types : List ObcType) (n : FlatNode) : Type 0 where
  pub clock : ℕ → Clock
  pub clocks : AreClocks n types clock
  pub own : AllByRecursion (DefinesOwn clock) n.eqns

-- Where the variables of a closed node have clocks, its clocks fit at each possible instant of its kinds.
abbrev pub FitLaw : Type 0
FitLaw = (types : List ObcType) (n : FlatNode) → IsRanked n.eqns → IsClosed n → IsAlwaysExclusive n → HasClocks types n → (now : Instant) → IsPossible types n now → ClocksFit n now

-- So a node that has shape is well made.
abbrev pub WellMadeLaw : Type 0
WellMadeLaw = (types : List ObcType) (callees : Callees) (n : FlatNode) → NodeShape types callees n → IsRanked n.eqns → IsClosed n → IsAlwaysExclusive n → HasClocks types n → IsWellMade types callees n

-- a node in which a variable is defined by an equation for each truth value of the input
abbrev pub copy_where : ℕ → FlatEqn
copy_where c = record { targets = 1 ∷ []; clock = (0, c) ∷ []; right = operator Copy (Variable 0 ∷ []); restart = []; at = 1 }

abbrev pub by_cases : FlatNode
by_cases = record {
  name = codes "f";
  variables = record { name = codes "b"; ty = flat.Bool } ∷ record { name = codes "x"; ty = flat.Bool } ∷ [];
  inputs = 1;
  outputs = 1 ∷ [];
  eqns = copy_where 1 ∷ copy_where 0 ∷ [];
}

-- Its variables have clocks.
abbrev pub SomeLaw : Type 0
SomeLaw = HasClocks [] by_cases
