-- The observers of the contracts of a program.
-- Source: own.
use Rattle.std.specs.Prelude.{◌≡◌, ℕ, List, Some}
use Rattle.hp_tree.specs.declared.program.Item.{Item}
use Rattle.hp_tree.specs.Programs.{Contract, Node}
use Rattle.hp_automata.specs.Lowering.{lowered_program}
use Rattle.hp_flat.specs.Nodes.{FlatNode}
use Rattle.hp_complete.specs.Declaring.{known_of}
use Rattle.hp_complete.specs.Made.{AreMadeOf}
use Rattle.hp_watch.specs.Observing.{observers}
use Rattle.hp_watch.specs.Watching.{Observing, observed}
use Rattle.law_choices.specs.InTurn.Observed.{EachObserved, contracted_nodes}

-- Clocked equations are made of the observers, and each node with a contract has those of its own one, by its name.
pub record AreObserversOf (after : List Item) (observing : Observing) : Type 0 where
  pub nodes : List FlatNode
  pub equations : AreMadeOf (known_of (lowered_program (observers after))) (lowered_program (observers after)) nodes
  pub are : EachObserved (λ (n : Node) (g : FlatNode). (c : Contract) → n.contract ≡ Some c → observing n.name ≡ Some (observed c g)) (contracted_nodes after) nodes
