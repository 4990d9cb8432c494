use Rattle.std.proofs.Common.{◌≡◌, drop, map}
use Rattle.std.specs.Prelude.{max}
use Rattle.hp_clocks.specs.Solved.{clock_read}
use Rattle.hp_clocks.specs.Longest.{counted, longest_local}
use Rattle.hp_clocks.proofs.length.longest_of_locals.Given as goal

abbrev pub invariant-loop-local : goal.invariant-loop-local
invariant-loop-local l =
    max l.most (counted (longest_local (map (λ x. clock_read l.cells.cells.items x) (drop l.local-index l.locals)))) ≡ counted (longest_local (map (λ x. clock_read l.cells.cells.items x) l.locals))
