-- What a node is seen as.
use Rattle.hp_flat.specs.declared.node.FlatNode.TheInside.{Inside}
use Rattle.hp_flat.specs.Nodes.{FlatNode}

abbrev pub node_seen : Inside → FlatNode
node_seen n = record {
  name = n.name;
  variables = n.variables.items;
  inputs = n.inputs;
  outputs = n.outputs.items;
  eqns = n.eqns.items;
}
