-- The values that words spell.
use Rattle.std.specs.Prelude.{ℕ, ◌≤◌, List, [], ◌∷◌, length, codes, if◌then◌else◌, Option, None, Some, option_map, true, false}
use Rattle.std.specs.List.{position}
use Rattle.std.specs.Str.{bytes_eq}
use Rattle.hp_base.specs.Kinds.{KindData, Bools, Ints, Constructors}
use Rattle.hp_base.specs.Limits.{most}
use Rattle.hp_base.specs.declared.limit.What.TheVariants as what
use Rattle.hp_base.specs.declared.value.Value.{Value}
use Rattle.hp_base.specs.declared.value.Value.TheVariants.{B, E, I}
use Rattle.hp_lines.specs.Numbers.{number_of}

abbrev pub bool_of : List ℕ → Option Value
bool_of w = if bytes_eq w (codes "true") then Some (B true) else (if bytes_eq w (codes "false") then Some (B false) else None)

-- the value of a kind that a word spells: a constructor is spelled by its name
abbrev pub value_of : KindData → List ℕ → Option Value
value_of Bools w = bool_of w
value_of Ints w = option_map I (number_of w)
value_of (Constructors number names) w = option_map (E number) (position (bytes_eq w) names)

-- a line that is read has at most so many bytes
abbrev pub longest_line : ℕ
longest_line = 65536

abbrev pub HasFewConstructors : KindData → Type 0
HasFewConstructors (Constructors number names) = length names ≤ most what.Constructors
HasFewConstructors kind = Unit {0}

abbrev pub with_value : Option Value → Option (List Value) → Option (List Value)
with_value (Some v) (Some vs) = Some (v ∷ vs)
with_value v vs = None

-- one value for each kind, in order
abbrev pub values_of : List KindData → List (List ℕ) → Option (List Value)
values_of [] [] = Some []
values_of (kind ∷ kinds) (w ∷ ws) = with_value (value_of kind w) (values_of kinds ws)
values_of kinds ws = None

-- No enumeration has more constructors than are read.
abbrev pub HaveFewConstructors : List KindData → Type 0
HaveFewConstructors [] = Unit {0}
HaveFewConstructors (kind ∷ kinds) = HasFewConstructors kind × HaveFewConstructors kinds
