use Rattle.std.proofs.Common.{◌≡◌, drop, map}
use Rattle.std.specs.Prelude.{max}
use Rattle.hp_clocks.specs.Solved.{clock_read}
use Rattle.hp_clocks.specs.Longest.{counted, longest_right}
use Rattle.hp_clocks.proofs.LengthRules.{right_read}
use Rattle.hp_clocks.proofs.length.longest_of_rights.Given as goal

abbrev pub invariant-loop-clock : goal.invariant-loop-clock
invariant-loop-clock l =
    max l.most (counted (longest_right (map (right_read (λ x. clock_read l.cells.cells.items x)) (drop l.clock-index l.rights)))) ≡ counted (longest_right (map (right_read (λ x. clock_read l.cells.cells.items x)) l.rights))
