-- What the bits of free places are at an instant.
-- Source: own; codes as in the machine of a contract, the most significant bit first.
use Rattle.std.specs.Prelude.{Bool, true, false, if◌then◌else◌, List, [], ◌∷◌, ◌++◌, length}
use Rattle.std.specs.List.{flat_map}
use Rattle.hp_base.specs.Kinds.{KindData, Bools, Ints, Constructors}
use Rattle.hp_base.specs.declared.value.Value.{Value}
use Rattle.hp_obc.specs.Machines.{ObcType}
use Rattle.hp_boolx.specs.Search.{Bits}
use Rattle.hp_flat.specs.declared.node.FlatTy.{FlatTy}
use Rattle.hp_flat.specs.declared.node.FlatTy.TheVariants as flat
use Rattle.hp_flat.specs.Nodes.{FlatNode}
use Rattle.law_equations.specs.Meaning.Instants.{Instant, holds, is_true}
use Rattle.hp_meaning.specs.Contract.Codes.{cons_number, to_bits, width}
use Rattle.hp_watch.specs.Adding.{type_at, some_value}
use Rattle.hp_watch.specs.Lifting.{count_of, width_of}
use Rattle.hp_watch.specs.declared.watching.Free.{Free}
use Rattle.hp_watch.specs.Watching.{clock_of}

-- the bits of a value of a type: a truth value is its own bit, a constructor has the code of its number, and an integer has none
abbrev pub bits_of_value : List ObcType → FlatTy → Value → Bits
bits_of_value types flat.Bool v = is_true v ∷ []
bits_of_value types flat.Int v = []
bits_of_value types (flat.Enum t) v = to_bits (width_of (count_of types (flat.Enum t))) (cons_number v)

-- the same by its kind
abbrev pub bits_of_kind : KindData → Value → Bits
bits_of_kind Bools v = is_true v ∷ []
bits_of_kind Ints v = []
bits_of_kind (Constructors t cons) v = to_bits (width (length cons)) (cons_number v)

-- those of values in a row
abbrev pub bits_of_kinds : List KindData → List Value → Bits
bits_of_kinds [] vs = []
bits_of_kinds (k ∷ ks) [] = []
bits_of_kinds (k ∷ ks) (v ∷ vs) = bits_of_kind k v ++ bits_of_kinds ks vs

-- the value of a free place where its clock holds, and some value of its type elsewhere
abbrev pub value_at : FlatNode → Instant → Free → Value
value_at n now f = if holds (clock_of n f.eqn) now then now f.variable else some_value (type_at n f.variable)

-- its bits
abbrev pub bits_at : List ObcType → FlatNode → Instant → Free → Bits
bits_at types n now f = bits_of_value types (type_at n f.variable) (value_at n now f)

-- those of some places, in order
abbrev pub all_bits_at : List ObcType → FlatNode → Instant → List Free → Bits
all_bits_at types n now fs = flat_map (bits_at types n now) fs

-- the places of which it is said that they are early, and all others
abbrev pub early_places : List Free → List Bool → List Free
early_places [] es = []
early_places (f ∷ fs) [] = []
early_places (f ∷ fs) (true ∷ es) = f ∷ early_places fs es
early_places (f ∷ fs) (false ∷ es) = early_places fs es

abbrev pub late_places : List Free → List Bool → List Free
late_places [] es = []
late_places (f ∷ fs) [] = []
late_places (f ∷ fs) (true ∷ es) = late_places fs es
late_places (f ∷ fs) (false ∷ es) = f ∷ late_places fs es
