-- The Boolean abstraction of a node: integers are one mark, and of the nodes that it calls only the contracts are there.
use Rattle.std.specs.Prelude.{ℕ, List, [], ◌∷◌, map, reverse, if◌then◌else◌}
use Rattle.std.specs.Str.{bytes_eq}
use Rattle.hp_base.specs.declared.value.Value.{Value}
use Rattle.hp_tree.specs.declared.program.Item.{Item}
use Rattle.hp_tree.specs.declared.program.Item.TheVariants.{TypeItem, NodeItem}
use Rattle.hp_tree.specs.Blocks.{Decl}
use Rattle.hp_tree.specs.Programs.{TypeDecl, Node}
use Rattle.hp_tree.specs.Operators.{abstraction, constant_of, marked}
use Rattle.hp_tree.specs.Instant.{Named, Instant, Given, nothing, in_node}
use Rattle.hp_tree.specs.Meaning.{Names, absent, Nodes, types_of, names_of, no_nodes, lasts, input_of, observer, node}

-- the outputs of a call: any values that are given, an integer as its mark
abbrev pub given_outputs : List Decl → Instant → Names → Names
given_outputs [] free out x = out x
given_outputs (d ∷ ds) free out x = if bytes_eq d.name x then marked (free (Named x ∷ [])) else given_outputs ds free out x

-- a call's instance in the abstraction: its outputs and its contract, which calls nothing
abbrev pub contract_alone : List TypeDecl → Node → List Value → Given → Instant → Instant
contract_alone types n inputs g now =
    let last : Names = lasts (λ c. abstraction.constant (constant_of types c)) n.outputs g.past absent in
    in_node (given_outputs n.outputs g.free absent) inputs [] nothing
    (observer types abstraction no_nodes n.contract (given_outputs n.outputs g.free (input_of n.inputs inputs absent)) last g now)

-- the nodes of a program, the last one first, as they are called in the abstraction
abbrev pub callees : List TypeDecl → List Item → Nodes
callees types [] = no_nodes
callees types (TypeItem t ∷ earlier) = callees types earlier
callees types (NodeItem n ∷ earlier) =
    let N = callees types earlier in
    record {
      outputs = λ f. if bytes_eq n.name f then names_of n.outputs else N.outputs f;
      instant = λ f inputs g now. if bytes_eq n.name f then contract_alone types n inputs g now else N.instant f inputs g now;
    }

-- what the places of the node of this name hold in its abstraction, where the nodes are given the last one first
abbrev pub abstract_among : List TypeDecl → List Item → List ℕ → List Value → Given → Instant → Instant
abstract_among types [] f inputs g now = nothing
abstract_among types (TypeItem t ∷ earlier) f inputs g now = abstract_among types earlier f inputs g now
abstract_among types (NodeItem n ∷ earlier) f inputs g now =
    if bytes_eq n.name f then node types abstraction (callees types earlier) n (map marked inputs) g now else abstract_among types earlier f inputs g now

abbrev pub abstract_meaning : List Item → List ℕ → List Value → Given → Instant → Instant
abstract_meaning program f inputs g now = abstract_among (types_of program) (reverse program) f inputs g now
