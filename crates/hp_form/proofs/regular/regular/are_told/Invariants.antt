use Rattle.std.proofs.Common.{take}
use Rattle.std.specs.List.{AllByRecursion}
use Rattle.law_equations.specs.Followed.Premises.{IsOfTypes, constants_in}
use Rattle.hp_form.proofs.regular.regular.are_told.Given as goal

abbrev pub invariant-loop-i : goal.invariant-loop-i
invariant-loop-i l = AllByRecursion (IsOfTypes l.types) (constants_in (take l.i l.atoms))
