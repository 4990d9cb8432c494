use Rattle.std.proofs.Common.{◌≡◌, ◌++◌, map, reverse, take}
use Rattle.hp_clocks.specs.Solved.{clock_read}
use Rattle.hp_clocks.specs.Writing.{paths_seen}
use Rattle.hp_clocks.proofs.write.paths_of.Given as goal

abbrev pub invariant-loop-local : goal.invariant-loop-local
invariant-loop-local l =
    paths_seen l.into.items ≡ paths_seen l.initial.into.items ++ map (λ x. reverse (clock_read l.solution.cells.cells.items x)) (take l.local-index l.solution.locals.items)
