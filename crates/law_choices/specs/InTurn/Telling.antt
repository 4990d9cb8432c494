-- Of each node of a program with a contract, one of the nodes that are made tells what the contract assumes and enforces.
-- Source: own.
use Rattle.std.specs.Prelude.{◌≡◌, ℕ, Bool, List, [], ◌∷◌, ◌++◌, reverse, Contains, Some}
use Rattle.std.specs.List.{AllByRecursion}
use Rattle.hp_base.specs.Kinds.{AreOfKinds}
use Rattle.hp_base.specs.declared.value.Value.{Value}
use Rattle.hp_base.specs.declared.value.Value.TheVariants.{B}
use Rattle.hp_tree.specs.declared.program.Item.{Item}
use Rattle.hp_tree.specs.Meaning.{types_of, node_among}
use Rattle.hp_tree.specs.Programs.{Node}
use Rattle.hp_flat.specs.Nodes.{FlatNode}
use Rattle.hp_meaning.specs.Contract.Guarantee.{HasContract}
use Rattle.law_equations.specs.Meaning.Reactions.{Answers}
use Rattle.law_wellmade.specs.Timely.Kinds.{kinds_of_decls}
use Rattle.hp_watch.specs.Watching.{Observing}
use Rattle.law_choices.specs.OnClocks.Meaning.{HasOneMeaning}
use Rattle.law_choices.specs.InTurn.Laws.{IsChoosing, said_of}
use Rattle.law_choices.specs.InTurn.Nodes.{Made, all_nodes, contract_name}

-- It takes values of the kinds of the node's inputs, and answers what the node answers, with two truth values behind: what is assumed, and what is enforced.
pub record TellsFor (after : List Item) (ms : List Made) (answers : Answers) (f : List ℕ) (n : Node) : Type 0 where
  pub node : FlatNode
  pub there : Contains (all_nodes ms) node
  pub named : node.name ≡ contract_name f
  pub takes : (said_of after ms).takes (contract_name f) ≡ kinds_of_decls (types_of after) n.inputs
  pub tells :
      (args : List Value) (earlier : List (List Value)) → AreOfKinds (kinds_of_decls (types_of after) n.inputs) args → AllByRecursion (AreOfKinds (kinds_of_decls (types_of after) n.inputs)) earlier
      → (assumed enforced : Bool) × (answers (contract_name f) args earlier ≡ answers f args earlier ++ B assumed ∷ B enforced ∷ [])

-- So it is of each node with a contract.
abbrev pub TellsForLaw : Type 0
TellsForLaw =
    (program after : List Item) (observers : Observing) (ms : List Made) → IsChoosing program after observers ms → (one : HasOneMeaning (said_of after ms) (all_nodes ms)) (f : List ℕ) (n : Node) → node_among (reverse after) f ≡ Some n → HasContract n
    → TellsFor after ms one.answers f n
