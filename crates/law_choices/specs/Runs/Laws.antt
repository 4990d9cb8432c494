-- What is proved of reactions in which controllable variables have chosen values.
use Rattle.std.specs.Prelude.{◌≡◌, ℕ, List, map, reverse, Some}
use Rattle.hp_base.specs.declared.value.Value.{Value}
use Rattle.hp_tree.specs.declared.program.Item.{Item}
use Rattle.hp_tree.specs.Programs.{TypeDecl, Node}
use Rattle.hp_tree.specs.Values.{AreOf}
use Rattle.hp_tree.specs.Instant.{Past}
use Rattle.hp_tree.specs.Meaning.{types_of, controls_of, node_among}
use Rattle.hp_tree.specs.Reaction.{Reaction, Each, outputs_at}
use Rattle.hp_meaning.specs.Causal.Causality.{IsRanked}
use Rattle.hp_meaning.specs.Causal.OneReaction.{OneReactionOf}
use Rattle.hp_meaning.specs.Causal.RanksOfPoints.{AllFall}
use Rattle.law_judged.specs.Named.Scoped.{EachNode}
use Rattle.law_values.specs.Accepted.Laws.{IsReady}
use Rattle.hp_automata.specs.Lowering.{lowered_program}
use Rattle.law_automata.specs.Lowered.Removable.{IsRemovable}
use Rattle.law_automata.specs.Lowered.Standing.{Along, Stands}
use Rattle.law_choices.specs.Choosing.Choices.{Choices}
use Rattle.law_choices.specs.Runs.Chosen.{ChosenReaction}

-- In a ranked program there is exactly one reaction over each list of inputs in which every instance has the chosen values.
abbrev pub OneLaw : Type 0
OneLaw = (choices : Choices) (program : List Item) (f : List ℕ) (inputs : List (List Value)) → IsRanked program → OneReactionOf (ChosenReaction choices program f inputs)

-- It is a reaction of the program, in which what is given to controllable variables is what they hold.
abbrev pub OfProgramLaw : Type 0
OfProgramLaw = (choices : Choices) (program : List Item) (f : List ℕ) (inputs : List (List Value)) (past : Past) → ChosenReaction choices program f inputs past → Reaction program f inputs past past

-- A node chooses values of the types of its controllable variables, whatever its inputs are.
abbrev pub ChoosesValues : List TypeDecl → Choices → Node → Type 0
ChoosesValues types choices n = (args : List Value) (earlier : List (List Value)) → AreOf types (controls_of n.contract) (choices n.name args earlier)

-- There is exactly one reaction with the chosen values in a program, and exactly one without its automata. They agree, instant by instant, on inputs, controllable variables, outputs, the names
-- of the node's body and each expression of the text (`Stands`), and so give the same outputs.
pub record OneForOne (choices : Choices) (program : List Item) (f : List ℕ) (inputs : List (List Value)) : Type 0 where
  pub before : OneReactionOf (ChosenReaction choices program f inputs)
  pub behind : OneReactionOf (ChosenReaction choices (lowered_program program) f inputs)
  pub stands : Along (Stands program f) before.past behind.past
  pub outputs : map (outputs_at (lowered_program program) f) behind.past ≡ map (outputs_at program f) before.past

-- So it is of a ready program, over each list of inputs of the types.
abbrev pub LoweredLaw : Type 0
LoweredLaw =
    (program after : List Item) (ranks : List (List ℕ)) → IsReady program after → IsRemovable after → AllFall after ranks → (choices : Choices) → EachNode (ChoosesValues (types_of after) choices) after
    → (f : List ℕ) (n : Node) (inputs : List (List Value)) → node_among (reverse after) f ≡ Some n → Each (AreOf (types_of after) n.inputs) inputs → OneForOne choices after f inputs
