-- A node with one controllable variable, whose contract asks for nothing, and what is made of it.
-- Source: own.
use Rattle.std.specs.Prelude.{List, [], ◌∷◌, Some}
use Rattle.hp_tree.specs.declared.program.Item.{Item}
use Rattle.hp_tree.specs.declared.program.Item.TheVariants.{NodeItem}
use Rattle.law_choices.specs.Adding.Worked.{one_observer}
use Rattle.law_choices.specs.InTurn.Nodes.{Contracted}
use Rattle.law_choices.specs.InTurn.Worked.{contract_tree}
use Rattle.law_choices.specs.Playing.Inputs.{HasInputsAlone}
use Rattle.law_choices.specs.Playing.Mirrored.{IsMirrored}

abbrev pub contract_program : List Item
contract_program = NodeItem contract_tree ∷ []

-- It asks a machine that mirrors its contract, and nothing is free in it but its inputs.
abbrev pub SomeMirroredLaw : Type 0
SomeMirroredLaw = HasInputsAlone contract_program contract_tree × (c : Contracted) × IsMirrored [] (λ f. Some one_observer) contract_program [] contract_tree c
