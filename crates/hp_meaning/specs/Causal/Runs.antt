-- Runs of programs without controllable variables.
use Rattle.std.specs.Prelude.{ℕ, ◌≡◌, List, [], ◌∷◌, ⊤, reverse, Some}
use Rattle.hp_base.specs.declared.value.Value.{Value}
use Rattle.hp_tree.specs.declared.program.Item.{Item}
use Rattle.hp_tree.specs.declared.program.Item.TheVariants.{TypeItem, NodeItem}
use Rattle.hp_tree.specs.Reaction.{IsRun, Each}
use Rattle.hp_meaning.specs.Causal.Causality.{IsRanked}
use Rattle.hp_tree.specs.Meaning.{controls_of, types_of, node_among}
use Rattle.hp_tree.specs.Values.{AreOf}
use Rattle.hp_tree.specs.Programs.{Node}

-- no node has a controllable variable
abbrev pub NoControls : List Item → Type 0
NoControls [] = ⊤
NoControls (TypeItem t ∷ items) = NoControls items
NoControls (NodeItem n ∷ items) = (controls_of n.contract ≡ []) × NoControls items

-- In a ranked program without controllable variables each node has a run over each list of inputs of its types.
abbrev pub SomeRunLaw : Type 0
SomeRunLaw =
    (program : List Item) (f : List ℕ) (n : Node) (inputs : List (List Value)) → IsRanked program → NoControls program
    → node_among (reverse program) f ≡ Some n → Each (AreOf (types_of program) n.inputs) inputs → (outputs : List (List Value)) × IsRun program f inputs outputs

-- Two runs over the same inputs give the same outputs.
abbrev pub OneRunLaw : Type 0
OneRunLaw = (program : List Item) (node : List ℕ) (inputs outputs others : List (List Value)) → IsRun program node inputs outputs → IsRun program node inputs others → outputs ≡ others
