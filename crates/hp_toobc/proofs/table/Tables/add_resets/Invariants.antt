use Rattle.std.proofs.Common.{◌≡◌, ◌++◌, take, map}
use Rattle.hp_obc.specs.Commands.{restart as reset}
use Rattle.hp_obc.specs.CommandView.{cmd_seen}
use Rattle.hp_toobc.specs.Making.{where_true}
use Rattle.hp_toobc.proofs.table.Tables.add_resets.Given as goal

abbrev pub invariant-loop-variable : goal.invariant-loop-variable
invariant-loop-variable l =
    map cmd_seen l.into.items ≡ map cmd_seen l.initial.into.items ++ where_true l.self.types.now l.self.variables.now (take l.variable-index l.restart) (reset l.instance)
