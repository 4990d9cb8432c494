use Rattle.std.proofs.Common.{◌≡◌, ◌++◌, take, drop, map}
use Rattle.hp_normal.specs.Retargeting.{with_targets}
use Rattle.hp_normal.specs.Tables.{ends_at}
use Rattle.hp_normal.proofs.retarget.retarget_all.Given as goal

abbrev pub invariant-loop-eqn : goal.invariant-loop-eqn
invariant-loop-eqn l = l.eqns ≡ map (with_targets (ends_at l.table)) (take l.eqn-index l.initial.eqns) ++ drop l.eqn-index l.initial.eqns
