-- What the machine of clocked equations is called, takes and gives.
use Rattle.std.specs.Prelude.{List, map, take}
use Rattle.hp_flat.specs.Nodes.{FlatNode}
use Rattle.hp_obc.specs.Machines.{ObcType}
use Rattle.hp_toobc.specs.Making.{declared}
use Rattle.hp_toobc.specs.Tables.{variable_at}
use Rattle.hp_machines.specs.Machined.{Heading}

abbrev pub heading_of_flat : List ObcType → FlatNode → Heading
heading_of_flat types f = record {
  name = f.name;
  inputs = map (declared types) (take f.inputs f.variables);
  outputs = map (λ x. declared types (variable_at f.variables x)) f.outputs;
}
