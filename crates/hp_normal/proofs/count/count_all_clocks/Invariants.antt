use Rattle.std.proofs.Common.{◌≡◌, drop}
use Rattle.std.specs.List.{flat_map}
use Rattle.hp_flat.specs.Equations.{FlatEqn}
use Rattle.hp_normal.specs.Reading.{clock_variables}
use Rattle.hp_normal.specs.Tables.{counted}
use Rattle.hp_normal.proofs.count.count_all_clocks.Given as goal

abbrev pub invariant-loop-eqn : goal.invariant-loop-eqn
invariant-loop-eqn l = counted (flat_map (λ (e : FlatEqn). clock_variables e.clock) (drop l.eqn-index l.eqns)) l.counts ≡ counted (flat_map (λ (e : FlatEqn). clock_variables e.clock) l.eqns) l.initial.counts
