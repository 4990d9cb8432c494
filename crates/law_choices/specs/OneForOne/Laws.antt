-- Removing automata keeps reactions one for one, where the values of controllable variables are given at each instant.
use Rattle.std.specs.Prelude.{◌≡◌, ℕ, true, List, map, length, reverse, Some}
use Rattle.hp_base.specs.declared.value.Value.{Value}
use Rattle.hp_base.specs.declared.value.Value.TheVariants.{Nil}
use Rattle.hp_tree.specs.declared.program.Item.{Item}
use Rattle.hp_tree.specs.Programs.{Node}
use Rattle.hp_tree.specs.Values.{AreOf}
use Rattle.hp_tree.specs.Instant.{Instant}
use Rattle.hp_tree.specs.Meaning.{types_of, node_among}
use Rattle.hp_tree.specs.Reaction.{Reaction, Each, outputs_at}
use Rattle.hp_meaning.specs.Causal.OneReaction.{OneReactionOf}
use Rattle.hp_meaning.specs.Causal.RanksOfPoints.{AllFall}
use Rattle.law_values.specs.Valued.Values.{GivenFits}
use Rattle.law_values.specs.Accepted.Laws.{IsReady}
use Rattle.hp_automata.specs.Lowering.{lowered_program}
use Rattle.law_automata.specs.Lowered.Removable.{IsRemovable}
use Rattle.law_automata.specs.Lowered.Standing.{Along, Stands}
use Rattle.law_automata.specs.Lowered.Laws.{SameControls}

-- There is exactly one reaction of a node in each of two programs. They agree, instant by instant, on inputs, controllable variables, outputs, the names of the
-- node's body and each expression of the text (`Stands`), and so give the same outputs.
pub record OneForOne (program : List Item) (f : List ℕ) (inputs : List (List Value)) (frees frees' : List Instant) : Type 0 where
  pub before : OneReactionOf (Reaction program f inputs frees)
  pub behind : OneReactionOf (Reaction (lowered_program program) f inputs frees')
  pub stands : Along (Stands program f) before.past behind.past
  pub outputs : map (outputs_at (lowered_program program) f) behind.past ≡ map (outputs_at program f) before.past

-- So it is of a ready program and the program without its automata, over each list of inputs of the types, where as many instants of values are given, those of the types, and the same to the
-- controllable variables of the node and of every instance below.
abbrev pub GivenLaw : Type 0
GivenLaw =
    (program after : List Item) (ranks : List (List ℕ)) → IsReady program after → IsRemovable after → AllFall after ranks
    → (f : List ℕ) (n : Node) (inputs : List (List Value)) (frees frees' : List Instant)
    → node_among (reverse after) f ≡ Some n → Each (AreOf (types_of after) n.inputs) inputs → length frees ≡ length inputs
    → Each (GivenFits (types_of after) true (λ given. Nil) (reverse after) f) frees → Along (SameControls after f) frees frees'
    → OneForOne after f inputs frees frees'
