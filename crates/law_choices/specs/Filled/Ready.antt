-- The filled form of ready programs without their automata, with chosen values for controllable variables.
-- Source: own.
use Rattle.std.specs.Prelude.{◌≡◌, ℕ, List, map, reverse, length, Some}
use Rattle.hp_base.specs.declared.value.Value.{Value}
use Rattle.hp_tree.specs.declared.program.Item.{Item}
use Rattle.hp_tree.specs.Programs.{Node}
use Rattle.hp_tree.specs.Values.{AreOf}
use Rattle.hp_tree.specs.Instant.{Instant}
use Rattle.hp_tree.specs.Meaning.{types_of, node_among}
use Rattle.hp_tree.specs.Reaction.{Each, outputs_at}
use Rattle.hp_meaning.specs.Causal.OneReaction.{OneReactionOf}
use Rattle.hp_meaning.specs.Causal.RanksOfPoints.{AllFall}
use Rattle.law_judged.specs.Named.Scoped.{EachNode}
use Rattle.law_values.specs.Accepted.Laws.{IsReady}
use Rattle.hp_automata.specs.Lowering.{lowered_program}
use Rattle.law_automata.specs.Lowered.Removable.{IsRemovable}
use Rattle.law_values.specs.Filled.Firsts.{TypesHaveConstructors}
use Rattle.law_values.specs.Filled.Under.{PastsUnder}
use Rattle.law_choices.specs.Choosing.Choices.{Choices}
use Rattle.law_choices.specs.Runs.Laws.{ChoosesValues, OneForOne}
use Rattle.law_choices.specs.Filled.Filled.{FilledReaction, IsFirst}

-- The chosen values are of the types also of the program without automata.
abbrev pub ChoicesKeptLaw : Type 0
ChoicesKeptLaw = (choices : Choices) (program : List Item) → EachNode (ChoosesValues (types_of program) choices) program → EachNode (ChoosesValues (types_of (lowered_program program)) choices) (lowered_program program)

-- Exactly one reaction with the chosen values in a program, in it without automata, and in the filled form of that. The last one has the value of the one before wherever that is not Nil, and the outputs of the program's.
pub record FilledForOne (choices : Choices) (program : List Item) (f : List ℕ) (inputs : List (List Value)) (frees : List Instant) : Type 0 where
  pub one : OneForOne choices program f inputs
  pub filled : OneReactionOf (FilledReaction choices (lowered_program program) f inputs frees)
  pub under : PastsUnder one.behind.past filled.past
  pub outputs : map (outputs_at (lowered_program program) f) filled.past ≡ map (outputs_at program f) one.before.past

-- So it is of a ready program, over inputs of the types and as many instants of given values that fit.
abbrev pub ReadyLaw : Type 0
ReadyLaw =
    (program after : List Item) (ranks : List (List ℕ)) → IsReady program after → IsRemovable after → AllFall after ranks → TypesHaveConstructors (types_of program)
    → (choices : Choices) → EachNode (ChoosesValues (types_of after) choices) after → (f : List ℕ) (n : Node) (inputs : List (List Value)) → node_among (reverse after) f ≡ Some n → Each (AreOf (types_of after) n.inputs) inputs
    → (frees : List Instant) → Each (IsFirst (lowered_program after) f) frees → length frees ≡ length inputs → FilledForOne choices after f inputs frees
