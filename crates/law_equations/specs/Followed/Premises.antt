-- What is asked of a node that a machine is made of.
use Rattle.std.specs.Prelude.{◌≡◌, ◌<◌, ◌≤◌, ◌^◌, ℕ, Bool, false, ◌||◌, nat_eq, if◌then◌else◌, List, [], ◌∷◌, ◌++◌, length, map}
use Rattle.std.specs.List.{AllByRecursion, IsDistinct}
use Rattle.std.specs.Str.{bytes_eq}
use Rattle.std.specs.Int.{w32}
use Rattle.std.specs.Int.RustNames.{FitsSigned}
use Rattle.hp_base.specs.declared.value.Value.{Value}
use Rattle.hp_base.specs.declared.value.Value.TheVariants.{B, E, I}
use Rattle.hp_obc.specs.Machines.{ObcType}
use Rattle.hp_obc.specs.Values.{constant_of, or_absent}
use Rattle.hp_flat.specs.declared.equation.Atom.{Atom}
use Rattle.hp_flat.specs.declared.equation.Atom.TheVariants.{Variable as Named, Value as Fixed}
use Rattle.hp_flat.specs.declared.node.Variable.{Variable}
use Rattle.hp_flat.specs.Equations.{Right, operator, register, called, FlatEqn}
use Rattle.hp_flat.specs.Nodes.{FlatNode}
use Rattle.law_equations.specs.Meaning.Scheduling.{IsScheduled, IsWithin}
use Rattle.hp_toobc.specs.Labels.{dollar}
use Rattle.hp_toobc.specs.Tables.{type_at, constant}
use Rattle.hp_toobc.specs.Stepping.{AreWide}

-- ---- constants

-- the constants among arguments, and of what gives values
abbrev pub constants_in : List Atom → List Value
constants_in [] = []
constants_in (Named x ∷ args) = constants_in args
constants_in (Fixed v ∷ args) = v ∷ constants_in args

abbrev pub constants_of : Right → List Value
constants_of (operator op args) = constants_in args
constants_of (register first next) = first ∷ constants_in (next ∷ [])
constants_of (called f args) = constants_in args

-- the constant that is written for a value tells the value
abbrev pub IsTold : List ObcType → Value → Type 0
IsTold types v = or_absent (constant_of types (constant types v)) ≡ v

-- a truth value, an integer of 32 bits, or a constructor of one of the types
abbrev pub IsOfTypes : List ObcType → Value → Type 0
IsOfTypes types (B b) = Unit {0}
IsOfTypes types (I n) = FitsSigned w32 n
IsOfTypes types (E t c) = c < length (type_at types t).cons
IsOfTypes types v = ⊥

-- ---- names

-- the first byte of a text; 0 where it has none
abbrev pub first_byte : List ℕ → ℕ
first_byte [] = 0
first_byte (b ∷ bs) = b

-- the letter behind the first sign of a name; 0 where it has none
abbrev pub letter_of : List ℕ → ℕ
letter_of [] = 0
letter_of (b ∷ bs) = if nat_eq b dollar then first_byte bs else letter_of bs

-- the letter of the names of memories, or of instances
abbrev pub is_taken : ℕ → Bool
is_taken letter = nat_eq letter 109 || nat_eq letter 110

-- a name that is made neither for a memory nor for an instance
abbrev pub IsOwn : List ℕ → Type 0
IsOwn x = is_taken (letter_of x) ≡ false

-- no byte of a name is the sign
abbrev pub HasNoSign : List ℕ → Type 0
HasNoSign x = AllByRecursion (λ b. nat_eq b dollar ≡ false) x

-- So is a name without the sign, and one with another letter behind its first sign.
abbrev pub OwnNamesLaw : Type 0
OwnNamesLaw =
    ((x : List ℕ) → HasNoSign x → IsOwn x)
    × ((x : List ℕ) (letter : ℕ) (rest : List ℕ) → HasNoSign x → is_taken letter ≡ false → IsOwn (x ++ (dollar ∷ letter ∷ rest)))

-- the names of variables
abbrev pub names : List Variable → List (List ℕ)
names variables = map (λ (v : Variable). v.name) variables

-- ---- nodes

-- a clock names constructors that types have, and constants are told
pub record EqnForm (types : List ObcType) (variables : List Variable) (e : FlatEqn) : Type 0 where
  pub clock : AreWide types variables e.clock
  pub constants : AllByRecursion (IsTold types) (constants_of e.right)

-- What is asked of a node.
pub record NodeForm (types : List ObcType) (n : FlatNode) : Type 0 where
  pub within : IsWithin n
  pub scheduled : IsScheduled n.eqns
  pub eqns : AllByRecursion (EqnForm types n.variables) n.eqns
  -- names differ, and no memory or instance has one of them
  pub names_differ : IsDistinct bytes_eq (names n.variables)
  pub names_own : AllByRecursion IsOwn (names n.variables)
  -- there are no more places than names of memories and instances tell apart
  pub few : length n.eqns ≤ 10 ^ 13
