-- A node with a contract, and what is made of it.
-- Source: own.
use Rattle.std.specs.Prelude.{codes, [], ◌∷◌, None, Some}
use Rattle.hp_tree.specs.Blocks.{block, no_eqn}
use Rattle.hp_tree.specs.Programs.{Contract, Node}
use Rattle.hp_tree.specs.Blocks.{Decl}
use Rattle.hp_base.specs.declared.ty.Ty.TheVariants as ty
use Rattle.hp_flat.specs.Nodes.{FlatNode}
use Rattle.hp_controller.specs.Controllers.{node_of_lines}
use Rattle.law_choices.specs.Adding.Worked.{one_observer, nowhere, some_tree}
use Rattle.law_choices.specs.InTurn.Nodes.{Contracted, IsContracted}

-- a truth value that is controllable
abbrev pub one_decl : Decl
one_decl = record { name = codes "c"; ty = ty.Bool; last = None; clock = Some []; span = nowhere }

abbrev pub free_contract : Contract
free_contract = record { span = nowhere; body = block [] no_eqn; assume = None; enforce = None; controls = one_decl ∷ [] }

-- a node whose contract asks for nothing
abbrev pub contract_tree : Node
contract_tree = record some_tree { contract = Some free_contract }

-- the controller that always says yes
abbrev pub free_controller : FlatNode
free_controller = node_of_lines (codes "f$ctl") 0 [] (1 ∷ [])

-- All that is asked of what is made of it is met at once.
abbrev pub SomeContractedLaw : Type 0
SomeContractedLaw = (c : Contracted) × IsContracted [] (λ f. Some one_observer) contract_tree c
