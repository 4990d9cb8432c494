-- What a node is seen as.
use Rattle.hp_tree.specs.declared.program.Node.TheInside.{Inside}
use Rattle.hp_tree.specs.Programs.{Node}

abbrev pub node_seen : Inside → Node
node_seen n = record {
  name = n.name;
  span = n.span;
  inputs = n.inputs.items;
  outputs = n.outputs.items;
  contract = n.contract;
  body = n.body;
}
