use Rattle.std.proofs.Common.{◌≡◌, ◌++◌, drop, map}
use Rattle.hp_obc.specs.CommandView.{cmd_seen}
use Rattle.hp_toobc.specs.Making.{stores}
use Rattle.hp_toobc.proofs.table.Tables.add_stores.Given as goal

abbrev pub invariant-loop-i : goal.invariant-loop-i
invariant-loop-i l =
    map cmd_seen l.into.items ++ stores l.self.types.now l.self.variables.now l.i (drop l.i l.eqns)
    ≡ map cmd_seen l.initial.into.items ++ stores l.self.types.now l.self.variables.now 0 l.eqns
