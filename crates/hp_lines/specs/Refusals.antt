-- Why a line spells no values.
use Rattle.std.specs.Prelude.{ℕ, suc, ◌==◌, List, ◌∷◌, length, if◌then◌else◌, Option, None, Some, option_map}
use Rattle.hp_base.specs.Kinds.{KindData}
use Rattle.hp_lines.specs.declared.read.LineErr.{LineErr}
use Rattle.hp_lines.specs.declared.read.LineErr.TheVariants.{Count, Word}
use Rattle.hp_lines.specs.Values.{value_of}

-- the number of the first word that spells no value of its kind, where the first word has the number n
abbrev pub wrong_word : ℕ → List KindData → List (List ℕ) → Option ℕ
wrong_word n (kind ∷ kinds) (w ∷ ws) = elim (value_of kind w) [ None ↦ Some n | Some v ↦ wrong_word (suc n) kinds ws ]
wrong_word n kinds ws = None

-- what is wrong with the words of a line: their number comes first
abbrev pub refusal : List KindData → List (List ℕ) → Option LineErr
refusal kinds ws = if length ws == length kinds then option_map Word (wrong_word 1 kinds ws) else Some (Count (length ws))

-- the first wrong word so far, behind a word of a number that gives a value or none
abbrev pub noted : {A : Type 0} → Option ℕ → ℕ → Option A → Option ℕ
noted (Some w) n value = Some w
noted None n None = Some n
noted None n (Some v) = None
