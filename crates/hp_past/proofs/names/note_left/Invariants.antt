use Rattle.std.proofs.Common.{◌≡◌, drop, map}
use Rattle.hp_past.specs.Names.{noted}
use Rattle.hp_past.proofs.names.note_left.Given as goal

abbrev pub invariant-loop-x : goal.invariant-loop-x
invariant-loop-x l = noted l.names (map (λ x. x.0) (drop l.x-index l.left)) ≡ noted l.initial.names (map (λ x. x.0) l.left)
