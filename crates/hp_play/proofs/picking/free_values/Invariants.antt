use Rattle.std.proofs.Common.{◌≡◌, length}
use Rattle.hp_diagram.specs.Diagrams.{Has, Keeps}
use Rattle.hp_play.proofs.picking.free_values.Given as goal

abbrev pub invariant-loop-x : goal.invariant-loop-x
invariant-loop-x l = (length l.free.items ≡ l.x) × Has l.t l.left × Keeps l.initial.t l.t
