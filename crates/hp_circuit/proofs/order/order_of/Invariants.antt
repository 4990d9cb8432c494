use Rattle.std.proofs.Common.{◌≡◌, ◌++◌, drop}
use Rattle.hp_circuit.specs.Levels.{numbered_from}
use Rattle.hp_circuit.proofs.OrderLaws.{AreSome}
use Rattle.hp_circuit.proofs.order.order_of.Given as goal

abbrev pub invariant-loop-i : goal.invariant-loop-i
invariant-loop-i l = AreSome l.ranks l.i l.order.items × (l.order.items ++ numbered_from l.i (drop l.i l.ranks) ≡ numbered_from 0 l.ranks)
