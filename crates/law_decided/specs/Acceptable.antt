-- Which contracts can be decided, and which are accepted then, in words of their nodes and games.
-- Source: own.
use Rattle.std.specs.Prelude.{Contains, IsTrue, List, [], is_some}
use Rattle.hp_base.specs.declared.limit.Limit.{Limit}
use Rattle.hp_tree.specs.declared.program.Item.{Item}
use Rattle.hp_tree.specs.declared.program.Item.TheVariants.{NodeItem}
use Rattle.hp_tree.specs.Programs.{Node}
use Rattle.hp_meaning.specs.Contract.Game.{Safe}
use Rattle.law_drawing.specs.Mirrors.Assumptions.{AssumesControl}
use Rattle.law_drawing.specs.Mirrors.Limits.{IsOver}

-- The contract of the node can be decided: its assumption reads no controllable variable at its own instant, and its bits pass no limit.
pub record IsDecidable (program : List Item) (n : Node) : Type 0 where
  pub uncontrolled : AssumesControl n → ⊥
  pub within : (limit : Limit) → IsOver program n limit → ⊥

-- It can be decided, and no violation is ever forced in its game.
pub record IsAcceptable (program : List Item) (n : Node) : Type 0 where
  pub decidable : IsDecidable program n
  pub safe : Safe program n []

-- So it is of each node of the program that has a contract.
abbrev pub AreAcceptable : List Item → Type 0
AreAcceptable program = (n : Node) → Contains program (NodeItem n) → IsTrue (is_some n.contract) → IsAcceptable program n
