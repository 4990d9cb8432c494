-- What a file of machines is seen as.
use Rattle.hp_obc.specs.declared.obc.Obc.TheInside.{Inside}
use Rattle.hp_obc.specs.Machines.{Obc}
use Rattle.hp_obc.specs.Form.{HasObcForm}

abbrev pub obc_seen : Inside → Obc
obc_seen o = record { types = o.types.items; machines = o.machines.items }

-- Its types and machines have form.
abbrev pub InsideHasForm : Inside → Type 0
InsideHasForm o = HasObcForm o.types.items o.machines.items
