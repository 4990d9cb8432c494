use Rattle.std.proofs.Common.{◌≡◌, ◌++◌, drop, map}
use Rattle.hp_controlled.specs.Parts.{marked, number_at, renumbered_eqn}
use Rattle.hp_controlled.proofs.part.marked_eqns.Given as goal

abbrev pub invariant-loop-i : goal.invariant-loop-i
invariant-loop-i l = l.kept.items ++ map (renumbered_eqn (number_at l.numbers.numbers.items)) (marked (drop l.i l.marks) (drop l.i l.eqns)) ≡ map (renumbered_eqn (number_at l.numbers.numbers.items)) (marked l.marks l.eqns)
