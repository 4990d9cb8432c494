-- What a type is seen as.
use Rattle.hp_obc.specs.declared.obc.ObcType.TheInside.{Inside}
use Rattle.hp_obc.specs.Machines.{ObcType}

abbrev pub type_seen : Inside → ObcType
type_seen t = record { name = t.name; cons = t.cons.items }
