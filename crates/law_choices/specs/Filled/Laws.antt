-- What is proved of reactions of the filled form in which controllable variables have chosen values.
use Rattle.std.specs.Prelude.{◌≡◌, ℕ, false, List, map, reverse, length, Some}
use Rattle.hp_base.specs.declared.value.Value.{Value}
use Rattle.hp_tree.specs.declared.program.Item.{Item}
use Rattle.hp_tree.specs.Programs.{Node}
use Rattle.hp_tree.specs.Values.{AreOf}
use Rattle.hp_tree.specs.Instant.{Instant, Past}
use Rattle.hp_tree.specs.Meaning.{types_of, node_among}
use Rattle.hp_tree.specs.Reaction.{Each, outputs_at}
use Rattle.hp_meaning.specs.Causal.Causality.{IsRanked}
use Rattle.hp_meaning.specs.Causal.OneReaction.{OneReactionOf}
use Rattle.law_judged.specs.Named.Scoped.{EachNode}
use Rattle.law_values.specs.Valued.Values.{Classing, AreAccepted, InstantFits}
use Rattle.law_values.specs.Filled.Firsts.{NodeHasFirsts}
use Rattle.law_values.specs.Filled.Under.{PastsUnder}
use Rattle.law_choices.specs.Choosing.Choices.{Choices}
use Rattle.law_choices.specs.Runs.Chosen.{ChosenReaction}
use Rattle.law_choices.specs.Runs.Laws.{ChoosesValues}
use Rattle.law_choices.specs.Filled.Filled.{FilledReaction, IsFirst}

-- In a ranked program the filled form has exactly one reaction with the chosen values over each list of inputs and as many instants of given values.
abbrev pub OneLaw : Type 0
OneLaw =
    (choices : Choices) (program : List Item) (f : List ℕ) (inputs : List (List Value)) (frees : List Instant) → IsRanked program → length frees ≡ length inputs
    → OneReactionOf (FilledReaction choices program f inputs frees)

-- An accepted program in which values of the types are chosen, a node of it, inputs of the node's types, and what is given to its filled form.
pub record IsChosen (choices : Choices) (program : List Item) (class : Classing) (f : List ℕ) (n : Node) (inputs : List (List Value)) (frees : List Instant) : Type 0 where
  pub accepted : AreAccepted (types_of program) class (reverse program)
  pub ranked : IsRanked program
  pub chooses : EachNode (ChoosesValues (types_of program) choices) program
  pub is_node : node_among (reverse program) f ≡ Some n
  pub inputs_fit : Each (AreOf (types_of program) n.inputs) inputs
  pub given_fit : Each (IsFirst program f) frees

-- Then each instant of a reaction of the filled form fits: none of its values is Nil.
abbrev pub FitsLaw : Type 0
FitsLaw =
    (choices : Choices) (program : List Item) (class : Classing) (f : List ℕ) (n : Node) (inputs : List (List Value)) (frees : List Instant) (other : Past) → IsChosen choices program class f n inputs frees
    → FilledReaction choices program f inputs frees other → Each (InstantFits (types_of program) false class (reverse program) f) other

-- Where also the declared types have first values, the language's reaction with the chosen values and that of the filled form have the same value at each place where the former's is not Nil,
abbrev pub AgreeLaw : Type 0
AgreeLaw =
    (choices : Choices) (program : List Item) (class : Classing) (f : List ℕ) (n : Node) (inputs : List (List Value)) (frees : List Instant) (past other : Past) → IsChosen choices program class f n inputs frees
    → EachNode (NodeHasFirsts (types_of program)) program → ChosenReaction choices program f inputs past → FilledReaction choices program f inputs frees other → PastsUnder past other

-- and the same outputs.
abbrev pub OutputsLaw : Type 0
OutputsLaw =
    (choices : Choices) (program : List Item) (class : Classing) (f : List ℕ) (n : Node) (inputs : List (List Value)) (frees : List Instant) (past other : Past) → IsChosen choices program class f n inputs frees
    → EachNode (NodeHasFirsts (types_of program)) program → ChosenReaction choices program f inputs past → FilledReaction choices program f inputs frees other
    → map (outputs_at program f) other ≡ map (outputs_at program f) past
