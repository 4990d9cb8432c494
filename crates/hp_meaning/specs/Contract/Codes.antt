-- The codes of values in bits, most significant first. A place that is absent or Nil counts as false or the first constructor.
-- Source: own. An enumeration takes the least number of bits that gives each constructor a code, its number; higher codes are no values.
use Rattle.std.specs.Prelude.{ℕ, ◌≡◌, ◌≤◌, ◌<◌, zero, suc, ◌+◌, ◌-◌, nat_le, Bool, false, if◌then◌else◌, List, [], ◌∷◌, length}
use Rattle.hp_base.specs.declared.ty.Ty.{Ty}
use Rattle.hp_base.specs.declared.ty.Ty.TheVariants as ty
use Rattle.hp_base.specs.declared.value.Value.{Value}
use Rattle.hp_base.specs.declared.value.Value.TheVariants.{B, E, Star}
use Rattle.hp_tree.specs.Programs.{TypeDecl}
use Rattle.hp_tree.specs.Operators.{is_true}
use Rattle.hp_tree.specs.Values.{constructors_of}

abbrev pub pow2 : ℕ → ℕ
pow2 zero = 1
pow2 (suc w) = pow2 w + pow2 w

-- the least number of bits for some values, at least those that were tried
abbrev pub width_from : ℕ → ℕ → ℕ → ℕ
width_from zero w m = w
width_from (suc tries) w m = if nat_le m (pow2 w) then w else width_from tries (suc w) m

abbrev pub width : ℕ → ℕ
width m = width_from m 0 m

-- a number in so many bits
abbrev pub to_bits : ℕ → ℕ → List Bool
to_bits zero k = []
to_bits (suc w) k = nat_le (pow2 w) k ∷ to_bits w (if nat_le (pow2 w) k then k - pow2 w else k)

abbrev pub number : List Bool → ℕ
number [] = 0
number (b ∷ bs) = (if b then pow2 (length bs) else 0) + number bs

-- the number of a constructor; 0 for all else
abbrev pub cons_number : Value → ℕ
cons_number (E t k) = k
cons_number v = 0

-- the bits of a value of a type
abbrev pub code : List TypeDecl → Ty → Value → List Bool
code types ty.Bool v = is_true v ∷ []
code types ty.Int v = []
code types (ty.Enum t) v = to_bits (width (length (constructors_of types t))) (cons_number v)

abbrev pub first_bit : List Bool → Bool
first_bit [] = false
first_bit (b ∷ bs) = b

-- the value of a code, with the number of the type; a number that is no constructor's is that of no constructor
abbrev pub decode : Ty → ℕ → List Bool → Value
decode ty.Bool t bs = B (first_bit bs)
decode ty.Int t bs = Star
decode (ty.Enum x) t bs = E t (number bs)

-- ---- the laws

-- A number has its code in enough bits.
abbrev pub CodeLaw : Type 0
CodeLaw = (w k : ℕ) → k < pow2 w → (length (to_bits w k) ≡ w) × (number (to_bits w k) ≡ k)

-- The bits are enough for so many values, and no fewer are.
abbrev pub WidthLaw : Type 0
WidthLaw = (m : ℕ) → (m ≤ pow2 (width m)) × ((w : ℕ) → m ≤ pow2 w → width m ≤ w)
