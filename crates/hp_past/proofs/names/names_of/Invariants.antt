use Rattle.std.proofs.Common.{◌≡◌, drop}
use Rattle.hp_past.specs.Names.{noted, names_in_program, names_of}
use Rattle.hp_past.proofs.names.names_of.Given as goal

abbrev pub invariant-loop-item : goal.invariant-loop-item
invariant-loop-item l = noted l.names (names_in_program (drop l.item-index l.items)) ≡ names_of l.items
