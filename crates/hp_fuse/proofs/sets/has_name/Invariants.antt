use Rattle.std.proofs.Common.{◌≡◌, drop}
use Rattle.hp_obc.specs.Form.{has_name}
use Rattle.hp_fuse.proofs.sets.has_name.Given as goal

abbrev pub invariant-loop-other : goal.invariant-loop-other
invariant-loop-other l = has_name (drop l.other-index l.names) l.name ≡ has_name l.names l.name
