use Rattle.std.proofs.Common.{◌≡◌, ◌++◌, take, drop}
use Rattle.hp_normal.specs.Substituting.{read_clock}
use Rattle.hp_normal.specs.Tables.{stands_at}
use Rattle.hp_normal.proofs.substitute.read_clock.Given as goal

abbrev pub invariant-loop-on : goal.invariant-loop-on
invariant-loop-on l = l.clock ≡ read_clock (stands_at l.table) (take l.on-index l.initial.clock) ++ drop l.on-index l.initial.clock
