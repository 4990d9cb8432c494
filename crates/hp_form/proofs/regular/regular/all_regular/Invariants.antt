use Rattle.std.proofs.Common.{take}
use Rattle.std.specs.List.{AllByRecursion}
use Rattle.hp_form.specs.Regular.Regular.{EqnIsRegular}
use Rattle.hp_form.proofs.regular.regular.all_regular.Given as goal

abbrev pub invariant-loop-i : goal.invariant-loop-i
invariant-loop-i l = AllByRecursion (EqnIsRegular l.tables.types.now l.tables.variables.now) (take l.i l.eqns)
