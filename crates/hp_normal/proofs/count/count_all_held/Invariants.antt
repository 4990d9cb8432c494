use Rattle.std.proofs.Common.{◌≡◌, drop}
use Rattle.std.specs.List.{flat_map}
use Rattle.hp_normal.specs.Needing.{held_reads}
use Rattle.hp_normal.specs.Tables.{counted}
use Rattle.hp_normal.proofs.count.count_all_held.Given as goal

abbrev pub invariant-loop-eqn : goal.invariant-loop-eqn
invariant-loop-eqn l = counted (flat_map held_reads (drop l.eqn-index l.eqns)) l.counts ≡ counted (flat_map held_reads l.eqns) l.initial.counts
