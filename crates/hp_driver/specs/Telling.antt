-- What stands behind the outputs on a line that also tells the values of a contract.
use Rattle.std.specs.Prelude.{ℕ, ◌+◌, ◌-◌, true, List, [], ◌∷◌, ◌++◌, length, take, codes, slice_index_or}
use Rattle.hp_base.specs.Kinds.{KindData, Constructors}
use Rattle.hp_base.specs.declared.value.Value.{Value}
use Rattle.hp_base.specs.declared.value.Value.TheVariants.{B, E}
use Rattle.hp_lines.specs.Lines.{line_of}
use Rattle.hp_driver.specs.declared.telling.Ending.{Ending}
use Rattle.hp_driver.specs.declared.telling.Ending.TheVariants.{Told, Kept}

-- the two words are values of kinds of their own, whose constructors are their spellings
abbrev pub word_kinds : List KindData
word_kinds =
    Constructors 65534 (codes "assume=false" ∷ codes "assume=true" ∷ [])
    ∷ Constructors 65535 (codes "enforce=false" ∷ codes "enforce=true" ∷ [])
    ∷ []

-- how many of so many outputs stand before the words: all but two that are told, or all, where there is no contract
abbrev pub count_before : Ending → ℕ → ℕ
count_before Told outputs = outputs - 2
count_before Kept outputs = outputs

-- the word of a truth value
abbrev pub word : ℕ → Value → Value
word number (B true) = E number 1
word number value = E number 0

-- the two words of some outputs: what stands behind so many of them, and true where nothing does
abbrev pub words_behind : ℕ → List Value → List Value
words_behind count outputs = word 65534 (slice_index_or outputs count (B true)) ∷ word 65535 (slice_index_or outputs (count + 1) (B true)) ∷ []

abbrev pub shown_kinds : Ending → List KindData → List KindData
shown_kinds ending kinds = take (count_before ending (length kinds)) kinds ++ word_kinds

abbrev pub shown_values : Ending → List Value → List Value
shown_values ending outputs = take (count_before ending (length outputs)) outputs ++ words_behind (count_before ending (length outputs)) outputs

-- the line of some outputs and the two words
abbrev pub told_line : Ending → List KindData → List Value → List ℕ
told_line ending kinds outputs = line_of (shown_kinds ending kinds) (shown_values ending outputs)
