-- Values on the base clock, and their bits, are added to a node.
-- Source: own.
use Rattle.std.specs.Prelude.{◌≡◌, ℕ, ◌<◌, ◌≤◌, List, [], ◌∷◌, length}
use Rattle.std.specs.List.{AllByRecursion}
use Rattle.hp_obc.specs.Machines.{ObcType}
use Rattle.hp_flat.specs.declared.node.FlatTy.{FlatTy}
use Rattle.hp_flat.specs.declared.node.FlatTy.TheVariants.{Bool}
use Rattle.hp_flat.specs.Equations.{Clock}
use Rattle.hp_flat.specs.Nodes.{FlatNode}
use Rattle.law_equations.specs.Meaning.Kinding.{Callees, HasArm, variable_kind}
use Rattle.law_equations.specs.Meaning.Scheduling.{clock_variables, AreBelow}
use Rattle.hp_watch.specs.Adding.{type_at, next_variable, with_copy}
use Rattle.hp_watch.specs.Lifting.{lifted, spelled}
use Rattle.law_choices.specs.Closed.Clocking.{IsFrontOf, StepsStand, by_cases}
use Rattle.law_choices.specs.Adding.Keeping.{IsBased, Keeps}

-- each constructor of a type has a number of one byte
abbrev pub HaveBytes : List ObcType → Type 0
HaveBytes types = AllByRecursion (λ (t : ObcType). length t.cons ≤ 256) types

-- a variable of a type that is there wherever a clock holds
pub record IsOn (n : FlatNode) (clock : ℕ → Clock) (on : Clock) (ty : FlatTy) (x : ℕ) : Type 0 where
  pub variable : x < length n.variables
  pub there : IsFrontOf (clock x) on
  pub type : type_at n x ≡ ty

-- A clock can stand in a node: what each step tests is there where the steps before it hold, and has the constructor.
pub record CanStand (types : List ObcType) (n : FlatNode) (clock : ℕ → Clock) (on : Clock) : Type 0 where
  pub within : AreBelow (length n.variables) (clock_variables on)
  pub steps : StepsStand n types clock [] on
  pub arms : AllByRecursion (λ (s : ℕ × ℕ). HasArm (variable_kind types n.variables s.0) s.1) on

-- A variable that is there wherever a clock holds is lifted to the base clock: the node stays well built, and the value is a variable of the same type there.
abbrev pub LiftLaw : Type 0
LiftLaw =
    (types : List ObcType) (callees : Callees) (n : FlatNode) (clock : ℕ → Clock) (on : Clock) (x : ℕ) → HaveBytes types → IsBased types callees clock n → CanStand types n clock on → IsOn n clock on (type_at n x) x
    → (k : Keeps types callees clock n (lifted types [] on x n).node) × IsOn (lifted types [] on x n).node k.clocks [] (type_at n x) (lifted types [] on x n).value

-- The bits of a variable on the base clock are truth values on it.
abbrev pub BitsLaw : Type 0
BitsLaw =
    (types : List ObcType) (callees : Callees) (n : FlatNode) (clock : ℕ → Clock) (x : ℕ) → HaveBytes types → IsBased types callees clock n → IsOn n clock [] (type_at n x) x
    → (k : Keeps types callees clock n (spelled types x n).node) × AllByRecursion (IsOn (spelled types x n).node k.clocks [] Bool) (spelled types x n).bits

-- So is a copy of a truth value on the base clock.
abbrev pub CopyLaw : Type 0
CopyLaw =
    (types : List ObcType) (callees : Callees) (n : FlatNode) (clock : ℕ → Clock) (x : ℕ) → IsBased types callees clock n → IsOn n clock [] Bool x
    → (k : Keeps types callees clock n (with_copy x n)) × IsOn (with_copy x n) k.clocks [] Bool (next_variable n)

-- In the node in which a variable is defined by an equation for each truth value of the input, that variable can be lifted from where the input is true.
abbrev pub SomeLiftLaw : Type 0
SomeLiftLaw = (callees : Callees) → IsBased [] callees (λ x. []) by_cases × HaveBytes [] × CanStand [] by_cases (λ x. []) ((0, 1) ∷ []) × IsOn by_cases (λ x. []) ((0, 1) ∷ []) (type_at by_cases 1) 1
