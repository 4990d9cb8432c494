-- Nodes that call none in whose contract integers are compared.
-- Source: own; a comparison of integers is free in the Boolean abstraction of the node that holds it, and in that of each node that calls it, as far as it stands in the contract.
use Rattle.std.specs.Prelude.{◌≡◌, List, [], ◌++◌}
use Rattle.hp_tree.specs.declared.program.Item.{Item}
use Rattle.hp_tree.specs.ExpressionTypes.{typed_in, untyped}
use Rattle.hp_tree.specs.Programs.{Node}
use Rattle.hp_tree.specs.Instant.{Inputs}
use Rattle.hp_tree.specs.Meaning.{types_of}
use Rattle.hp_meaning.specs.Causal.Sources.{below}
use Rattle.hp_meaning.specs.Contract.FreePlaces.{calls_of}
use Rattle.hp_meaning.specs.Contract.Slots.{FreePlace, free_among, free_places, slots_of_contract}
use Rattle.law_choices.specs.Playing.Inputs.{HasInputsAlone, places_in_row}
use Rattle.law_choices.specs.Seeing.Around.{outputs_in}
use Rattle.law_choices.specs.Seeing.InBody.{SeesInBody, free_in_body, no_slots}

-- the comparisons of integers in the contract of a node
abbrev pub free_in_contract : List Item → Node → List FreePlace
free_in_contract program n = free_among (slots_of_contract (types_of program) (outputs_in program) no_slots n.contract (typed_in n.inputs (typed_in n.outputs untyped)) (λ p. p))

-- The free places of the node are its inputs, the comparisons of its contract, and the comparisons and outputs of calls of its body. So nothing is free in the contracts of the nodes that it calls.
abbrev pub CalleesCompareNothing : List Item → Node → Type 0
CalleesCompareNothing program n = free_places program n ≡ places_in_row n.inputs (below Inputs (λ p. p)) ++ (free_in_contract program n ++ free_in_body program n)

-- So it is of each node that calls nothing; of each of which only inputs, and comparisons and calls of the body are free; and of each of which only inputs are.
abbrev pub CallsNothingLaw : Type 0
CallsNothingLaw = (program : List Item) (n : Node) → calls_of n ≡ [] → CalleesCompareNothing program n

abbrev pub InBodyLaw : Type 0
InBodyLaw = (program : List Item) (n : Node) → SeesInBody program n → CalleesCompareNothing program n

abbrev pub InputsAloneLaw : Type 0
InputsAloneLaw = (program : List Item) (n : Node) → HasInputsAlone program n → CalleesCompareNothing program n
