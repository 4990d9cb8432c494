-- Nodes of which nothing is free but the inputs, and comparisons of integers and outputs of calls in the body, wherever these stand.
-- Source: own; a comparison of integers and an output of a call are free in the Boolean abstraction, and clocked equations hold their values without a name (Biernacki, Colaço, Hamon, Pouzet, LCTES 2008).
use Rattle.std.specs.Prelude.{◌≡◌, ℕ, List, [], ◌++◌}
use Rattle.hp_tree.specs.declared.program.Item.{Item}
use Rattle.hp_tree.specs.Programs.{Node}
use Rattle.hp_tree.specs.Instant.{Body, Inputs, Place}
use Rattle.hp_tree.specs.Meaning.{types_of}
use Rattle.hp_meaning.specs.Causal.Sources.{below}
use Rattle.hp_meaning.specs.Contract.Slots.{FreePlace, Slot, free_among, free_places, slots_of_block}
use Rattle.law_choices.specs.Playing.Inputs.{places_in_row}
use Rattle.law_choices.specs.Seeing.Around.{outputs_in, types_around}

-- nothing is looked at in what is called
abbrev pub no_slots : List ℕ → (Place → Place) → List Slot
no_slots f w = []

-- the comparisons of integers in the body of a node, and the outputs of its calls that are no integers
abbrev pub free_in_body : List Item → Node → List FreePlace
free_in_body program n = free_among (slots_of_block (types_of program) (outputs_in program) no_slots n.body (types_around n) (below Body (λ p. p)))

-- The inputs and these places are all free places of the node.
abbrev pub SeesInBody : List Item → Node → Type 0
SeesInBody program n = free_places program n ≡ places_in_row n.inputs (below Inputs (λ p. p)) ++ free_in_body program n
