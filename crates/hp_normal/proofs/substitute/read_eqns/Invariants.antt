use Rattle.std.proofs.Common.{◌≡◌, ◌++◌, take, drop, map}
use Rattle.hp_normal.specs.Substituting.{read_eqn}
use Rattle.hp_normal.specs.Tables.{stands_at}
use Rattle.hp_normal.proofs.substitute.read_eqns.Given as goal

abbrev pub invariant-loop-eqn : goal.invariant-loop-eqn
invariant-loop-eqn l = l.eqns ≡ map (read_eqn (stands_at l.table)) (take l.eqn-index l.initial.eqns) ++ drop l.eqn-index l.initial.eqns
