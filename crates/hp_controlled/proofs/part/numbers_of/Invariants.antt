use Rattle.std.proofs.Common.{◌≡◌, ◌++◌, drop}
use Rattle.hp_controlled.specs.Parts.{numbers_from}
use Rattle.hp_controlled.proofs.part.numbers_of.Given as goal

abbrev pub invariant-loop-i : goal.invariant-loop-i
invariant-loop-i l = l.numbers.items ++ numbers_from l.next (drop l.i l.marks) ≡ numbers_from 0 l.marks
