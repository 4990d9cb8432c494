use Rattle.std.proofs.Common.{◌≡◌, ◌++◌, drop, map}
use Rattle.hp_toobc.specs.Making.{declared}
use Rattle.hp_toobc.specs.Flags.{flagged}
use Rattle.hp_toobc.proofs.table.Tables.flagged.Given as goal

abbrev pub invariant-loop-i : goal.invariant-loop-i
invariant-loop-i l =
    l.vars.items ++ map (declared l.self.types.now) (flagged (drop l.i l.flags) (drop l.i l.self.variables.now))
    ≡ map (declared l.self.types.now) (flagged (drop l.from l.flags) (drop l.from l.self.variables.now))
