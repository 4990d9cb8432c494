-- Kinds and signatures as plain data, and the values of a kind.
use Rattle.std.specs.Prelude.{◌≡◌, ℕ, ◌<◌, Bool, List, [], ◌∷◌, length, map}
use Rattle.std.specs.Int.{w32}
use Rattle.std.specs.Int.RustNames.{FitsSigned}
use Rattle.hp_base.specs.declared.kind.Kind.{Kind}
use Rattle.hp_base.specs.declared.kind.Kind.TheVariants.{Bool as BoolKind, Int as IntKind, Enum as EnumKind}
use Rattle.hp_base.specs.declared.value.Value.{Value}
use Rattle.hp_base.specs.declared.value.Value.TheVariants.{B, E, I}

-- a kind: an enumeration has the number of its type, and the names of its constructors in declared order
pub data KindData : Type 0 where
  Bools : KindData
  Ints : KindData
  Constructors : ℕ → List (List ℕ) → KindData

-- what a kind is seen as
abbrev pub kind_seen : Kind → KindData
kind_seen BoolKind = Bools
kind_seen IntKind = Ints
kind_seen (EnumKind number cons) = Constructors number cons.items

-- a name and its kind
abbrev pub Port : Type 0
Port = List ℕ × KindData

-- what a node takes and gives, each in declared order
pub record SignatureData : Type 0 where
  pub name : List ℕ
  pub inputs : List Port
  pub outputs : List Port
  pub contract : Bool

-- the kinds of some inputs or outputs
abbrev pub kinds_of : List Port → List KindData
kinds_of ports = map (λ (port : Port). port.1) ports

-- A value is of a kind.
abbrev pub IsOfKind : KindData → Value → Type 0
IsOfKind Bools (B b) = Unit {0}
IsOfKind Ints (I n) = FitsSigned w32 n
IsOfKind (Constructors number cons) (E t c) = (t ≡ number) × (c < length cons)
IsOfKind kind value = ⊥

-- There is one value for each kind, in order, and it is of that kind.
abbrev pub AreOfKinds : List KindData → List Value → Type 0
AreOfKinds [] [] = Unit {0}
AreOfKinds (kind ∷ kinds) (value ∷ values) = IsOfKind kind value × AreOfKinds kinds values
AreOfKinds kinds values = ⊥
