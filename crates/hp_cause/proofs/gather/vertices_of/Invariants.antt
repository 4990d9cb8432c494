use Rattle.std.proofs.Common.{◌≡◌, drop}
use Rattle.hp_cause.specs.Gathering.{vertices_of}
use Rattle.hp_tables.specs.Defining.Layers.{sight}
use Rattle.hp_cause.specs.Told.{with_more}
use Rattle.hp_cause.proofs.gather.vertices_of.Given as goal

abbrev pub invariant-loop-name : goal.invariant-loop-name
invariant-loop-name l = with_more l.vertices.items (vertices_of (sight l.layers) (drop l.name-index l.names)) ≡ vertices_of (sight l.layers) l.names
