-- Runs that a program allows, whatever its controllable variables hold.
-- Source: own; what a controlled program does is among what the program without its controller can do, after Ramadge and Wonham (The control of discrete event systems, Proceedings of the IEEE, 1989).
use Rattle.std.specs.Prelude.{◌≡◌, ℕ, List, map}
use Rattle.hp_base.specs.declared.value.Value.{Value}
use Rattle.hp_tree.specs.declared.program.Item.{Item}
use Rattle.hp_tree.specs.Instant.{Past}
use Rattle.hp_tree.specs.Meaning.{types_of}
use Rattle.hp_tree.specs.Reaction.{Reaction, outputs_at}
use Rattle.law_judged.specs.Named.Scoped.{EachNode}
use Rattle.law_choices.specs.Choosing.Choices.{Choices}
use Rattle.law_choices.specs.Runs.Chosen.{ChosenReaction}
use Rattle.law_choices.specs.Runs.Laws.{ChoosesValues}

-- What is said over inputs, newest first, are the outputs of a reaction of the program, in which the controllable variables of each instance, at every depth and at each instant, have chosen values of their types.
pub record IsAllowedRun (program : List Item) (f : List ℕ) (inputs said : List (List Value)) : Type 0 where
  pub choices : Choices
  pub values : EachNode (ChoosesValues (types_of program) choices) program
  pub past : Past
  pub chosen : ChosenReaction choices program f inputs past
  pub reaction : Reaction program f inputs past past
  pub outputs : map (outputs_at program f) past ≡ said
