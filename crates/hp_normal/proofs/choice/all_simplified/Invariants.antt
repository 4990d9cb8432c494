use Rattle.std.proofs.Common.{◌≡◌, ◌++◌, map}
use Rattle.hp_normal.specs.Choices.{simplified}
use Rattle.hp_normal.specs.Tables.{stands_at}
use Rattle.hp_normal.proofs.choice.all_simplified.Given as goal

abbrev pub invariant-loop-eqn : goal.invariant-loop-eqn
invariant-loop-eqn l =
    l.made.items ++ map (simplified l.variables (stands_at l.table)) l.eqn-iterator.rest.items ≡ map (simplified l.variables (stands_at l.table)) l.fn.eqns.items
