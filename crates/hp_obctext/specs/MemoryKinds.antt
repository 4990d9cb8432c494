-- The kinds of the values of a machine, and the text of a checkpoint of them.
use Rattle.std.specs.Prelude.{◌≡◌, ℕ, ◌+◌, min, List, [], ◌∷◌, length, map, if◌then◌else◌, Option, None, Some, option_map}
use Rattle.std.specs.List.{sum_by, slice_get}
use Rattle.std.specs.Str.{bytes_eq}
use Rattle.hp_base.specs.Kinds.{KindData, Bools, Ints, Constructors, AreOfKinds}
use Rattle.hp_base.specs.declared.value.Value.{Value}
use Rattle.hp_base.specs.declared.value.Value.TheVariants.{B, E, I}
use Rattle.hp_lines.specs.Lines.{texts_of, word_room}
use Rattle.hp_lines.specs.Refusals.{refusal}
use Rattle.hp_lines.specs.declared.read.LineErr.{LineErr}
use Rattle.hp_lines.specs.declared.read.LineErr.TheVariants as line
use Rattle.hp_obc.specs.Machines.{ObcType}
use Rattle.hp_obctext.specs.MemoryTexts.{joined, checkpoint, Says}
use Rattle.hp_obctext.specs.MemoryRefusals.{IsNoCheckpoint}
use Rattle.hp_obctext.specs.declared.memory.error.MemErr.{MemErr}
use Rattle.hp_obctext.specs.declared.memory.error.MemErr.TheVariants as error

abbrev pub constructors_of : Option ObcType → List (List ℕ)
constructors_of None = []
constructors_of (Some t) = t.cons

-- the constructors of the type of a number
abbrev pub constructors_at : List ObcType → ℕ → List (List ℕ)
constructors_at types n = constructors_of (slice_get types n)

-- the kind that a value has
abbrev pub kind_at : List ObcType → Value → KindData
kind_at types (B b) = Bools
kind_at types (I n) = Ints
kind_at types (E t c) = Constructors t (constructors_at types t)
kind_at types v = Constructors 0 []

abbrev pub kinds_at : List ObcType → List Value → List KindData
kinds_at types values = map (kind_at types) values

-- Values are truth values, integers of 32 bits and constructors of the types.
abbrev pub AreOfTypes : List ObcType → List Value → Type 0
AreOfTypes types values = AreOfKinds (kinds_at types values) values

-- the text of a checkpoint of a node
abbrev pub memory_text : List ObcType → List ℕ → List Value → List ℕ
memory_text types node values = joined (checkpoint node (texts_of (kinds_at types values) values))

-- the length of the longest text of a checkpoint of a node, with values of some kinds: `hept-mem 1`, `node NAME`, a line for each value, and `end`
abbrev pub longest_text : List ℕ → List KindData → ℕ
longest_text node kinds = 21 + length node + sum_by word_room kinds

-- that length, or the greatest `u64` where it is greater
abbrev pub memory_bound : List ℕ → List KindData → ℕ
memory_bound node kinds = min 18446744073709551615 (longest_text node kinds)

-- why a line of words is refused, said of a checkpoint
abbrev pub of_line : LineErr → MemErr
of_line (line.Count n) = error.Count n
of_line (line.Word n) = error.Word n

-- What does not fit of a checkpoint: its name, or else the number of its values, or else the first that is not of its kind.
abbrev pub misfit : List ℕ → List KindData → List ℕ → List (List ℕ) → Option MemErr
misfit node kinds name ws = if bytes_eq name node then option_map of_line (refusal kinds ws) else Some error.Node

-- why a text is refused: it is no checkpoint, from a place on, or one that does not fit
abbrev pub Refuses : List ℕ → MemErr → Type 0
Refuses text (error.Syntax span) = IsNoCheckpoint text span
Refuses text e = (name : List ℕ) × (ws : List (List ℕ)) × Says text name ws
