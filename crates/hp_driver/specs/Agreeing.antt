-- That machines do what the nodes of a program do.
use Rattle.std.specs.Prelude.{◌≡◌, ◌↔◌, ℕ, List, Some}
use Rattle.hp_base.specs.declared.limit.Limit.{Limit}
use Rattle.hp_exec.specs.Answers.{IsPassed}
use Rattle.hp_obc.specs.Form.{machine_named}
use Rattle.hp_obc.specs.Machines.{Machine, Obc}
use Rattle.hp_tree.specs.declared.program.Item.{Item}
use Rattle.hp_tree.specs.Meaning.{node_among}
use Rattle.hp_tree.specs.Programs.{Node}
use Rattle.law_history.specs.Streams.Texts.{RunsNode}
use Rattle.hp_driver.specs.Answers.{IsAnswer}
use Rattle.hp_driver.specs.Systems.{System, of_node, of_machine, inputs_of}
use Rattle.hp_driver.specs.Values.{first_bad}

-- A machine and the node of its name refuse the same lines, and answer the same to lines.
pub record AgreesWith (machine node : System) : Type 0 where
  pub refuses : (lines : List (List ℕ)) → first_bad (inputs_of machine) 1 lines ≡ first_bad (inputs_of node) 1 lines
  pub answers : (lines : List (List ℕ)) (bytes : List ℕ) → IsAnswer machine lines bytes ↔ IsAnswer node lines bytes

-- each node has a machine among these, of its name, which does what the node does
abbrev pub AgreeWithNodes : List Item → Obc → Type 0
AgreeWithNodes program o = (f : List ℕ) (n : Node) → node_among program f ≡ Some n → (m : Machine) × (machine_named o.machines f ≡ Some m) × AgreesWith (of_machine o f) (of_node program f)

-- such a machine gives the outputs of the node's one run
abbrev pub RunNodes : List Item → Obc → Type 0
RunNodes ordered o = (f : List ℕ) (n : Node) → node_among ordered f ≡ Some n → (m : Machine) × (machine_named o.machines f ≡ Some m) × RunsNode ordered o f m

-- no such machine passes a limit of what is executed
abbrev pub AreWithin : List Item → Obc → Type 0
AreWithin ordered o = (f : List ℕ) (n : Node) → node_among ordered f ≡ Some n → (limit : Limit) → IsPassed o f limit → ⊥
