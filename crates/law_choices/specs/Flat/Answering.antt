-- What the nodes of a program answer whose controllable variables have chosen values: in the filled form, where each `pre` without a past gives a fixed value for its place.
-- Source: own.
use Rattle.std.specs.Prelude.{◌≡◌, ℕ, false, List, ◌∷◌, reverse}
use Rattle.std.specs.List.{AllByRecursion}
use Rattle.hp_base.specs.declared.value.Value.{Value}
use Rattle.hp_tree.specs.declared.program.Item.{Item}
use Rattle.hp_tree.specs.Blocks.{Decl}
use Rattle.hp_tree.specs.Programs.{Node}
use Rattle.hp_tree.specs.Operators.{filled}
use Rattle.hp_tree.specs.Instant.{Instant, Place, Past}
use Rattle.hp_tree.specs.Meaning.{Nodes, declares, types_of, controls_of}
use Rattle.hp_meaning.specs.Causal.OneReaction.{ReactionOf}
use Rattle.law_equations.specs.Meaning.Reactions.{Answers}
use Rattle.law_equations.specs.Flattened.Behaves.{OutputsAre}
use Rattle.law_equations.specs.Answered.Answering.{given_each}
use Rattle.law_choices.specs.Choosing.Choices.{Choices}
use Rattle.law_choices.specs.Runs.Chosen.{chosen_nodes, chosen_meaning}

abbrev pub chosen_filled : Choices → List Item → Nodes
chosen_filled choices program = chosen_nodes choices (types_of program) filled (reverse program)

-- A node has a reaction with the chosen values over inputs, the newest first, with these outputs at its newest instant.
pub record IsChosenAnswer (choices : Choices) (program : List Item) (f : List ℕ) (fill : Instant) (inputs : List (List Value)) (outputs : List Value) : Type 0 where
  pub past : Past
  pub reaction : ReactionOf (chosen_meaning choices filled program f) inputs (given_each fill inputs) past
  pub outputs_are : OutputsAre ((chosen_filled choices program).outputs f) past outputs

-- So each node answers on all arguments, behind the earlier ones.
abbrev pub AnsweringUnder : Choices → List Item → (List ℕ → Place → Value) → Answers → Type 0
AnsweringUnder choices program fills answers =
    (f : List ℕ) (args : List Value) (earlier : List (List Value)) → IsChosenAnswer choices program f (fills f) (args ∷ earlier) (answers f args earlier)

-- No input of a node has the name of a controllable variable.
abbrev pub ControlsDiffer : Node → Type 0
ControlsDiffer n = AllByRecursion (λ (d : Decl). declares (controls_of n.contract) d.name ≡ false) n.inputs
