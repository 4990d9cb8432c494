use Rattle.std.proofs.Common.{take}
use Rattle.hp_toobc.specs.Stepping.{AreWide}
use Rattle.hp_form.proofs.regular.regular.is_wide.Given as goal

abbrev pub invariant-loop-i : goal.invariant-loop-i
invariant-loop-i l = AreWide l.tables.types.now l.tables.variables.now (take l.i l.clock)
