-- What the nodes of a program do where the controllable variables of each instance have chosen values.
-- Source: own.
use Rattle.std.specs.Prelude.{ℕ, List, [], ◌∷◌, map, reverse, if◌then◌else◌}
use Rattle.std.specs.Str.{bytes_eq}
use Rattle.hp_base.specs.declared.value.Value.{Value}
use Rattle.hp_tree.specs.declared.program.Item.{Item}
use Rattle.hp_tree.specs.declared.program.Item.TheVariants.{TypeItem, NodeItem}
use Rattle.hp_tree.specs.Programs.{TypeDecl, Node}
use Rattle.hp_tree.specs.Operators.{Reading, real}
use Rattle.hp_tree.specs.Instant.{Inputs, Instant, Past, Given, part, nothing, alone, in_row}
use Rattle.hp_tree.specs.Meaning.{Nodes, no_nodes, names_of, node, types_of}
use Rattle.hp_tree.specs.Reaction.{row_of}
use Rattle.hp_meaning.specs.Causal.OneReaction.{ReactionOf}
use Rattle.hp_meaning.specs.Causal.Steering.{steered_by}
use Rattle.law_choices.specs.Choosing.Choices.{Choice, Choices}

-- the inputs that an instant of a node holds
abbrev pub inputs_at : Node → Instant → List Value
inputs_at n now = row_of n.inputs (part Inputs now)

-- what a node is read with whose controllable variables have chosen values, by its inputs now and those of its own past
abbrev pub chosen_given : Choice → Node → List Value → Given → Given
chosen_given choice n inputs g = record { past = g.past; free = steered_by g.free (in_row (map alone (choice inputs (map (inputs_at n) g.past)))) }

-- The nodes of a program, the last one first: each instance chooses so, the callees too.
abbrev pub chosen_nodes : Choices → List TypeDecl → Reading → List Item → Nodes
chosen_nodes choices types R [] = no_nodes
chosen_nodes choices types R (TypeItem t ∷ earlier) = chosen_nodes choices types R earlier
chosen_nodes choices types R (NodeItem n ∷ earlier) =
    let N = chosen_nodes choices types R earlier in
    record {
      outputs = λ f. if bytes_eq n.name f then names_of n.outputs else N.outputs f;
      instant = λ f inputs g now. if bytes_eq n.name f then node types R N n inputs (chosen_given (choices n.name) n inputs g) now else N.instant f inputs g now;
    }

-- what the places of the node of this name hold then
abbrev pub chosen_meaning : Choices → Reading → List Item → List ℕ → List Value → Given → Instant → Instant
chosen_meaning choices R program f inputs g now = (chosen_nodes choices (types_of program) R (reverse program)).instant f inputs g now

-- Instants, newest first, are a reaction of a node over inputs, and in each instance at every depth the controllable variables have the chosen values. Nothing else is given.
abbrev pub ChosenReaction : Choices → List Item → List ℕ → List (List Value) → Past → Type 0
ChosenReaction choices program f inputs past = ReactionOf (chosen_meaning choices real program f) inputs (map (λ (vs : List Value). nothing) inputs) past
