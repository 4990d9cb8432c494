-- Reactions of the filled form in which controllable variables have chosen values.
-- Source: own.
use Rattle.std.specs.Prelude.{ℕ, false, List, reverse}
use Rattle.hp_base.specs.declared.value.Value.{Value}
use Rattle.hp_tree.specs.declared.program.Item.{Item}
use Rattle.hp_tree.specs.Operators.{filled}
use Rattle.hp_tree.specs.Instant.{Instant, Past}
use Rattle.hp_tree.specs.Meaning.{types_of}
use Rattle.hp_meaning.specs.Causal.OneReaction.{ReactionOf}
use Rattle.law_values.specs.Valued.Values.{GivenFits}
use Rattle.law_choices.specs.Choosing.Choices.{Choices}
use Rattle.law_choices.specs.Runs.Chosen.{chosen_meaning}

-- Instants, newest first, are a reaction of the filled form of a node over inputs, where a `pre` without a past has the value that is given there. In each instance at every depth the controllable variables have the chosen values, whatever is given for them.
abbrev pub FilledReaction : Choices → List Item → List ℕ → List (List Value) → List Instant → Past → Type 0
FilledReaction choices program f inputs frees past = ReactionOf (chosen_meaning choices filled program f) inputs frees past

-- What is given fits: at each `pre` it is a value of its type, and so it is for each controllable variable, though the chosen value is taken there.
abbrev pub IsFirst : List Item → List ℕ → Instant → Type 0
IsFirst program f free = GivenFits (types_of program) false (λ given. given) (reverse program) f free
