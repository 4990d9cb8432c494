use Rattle.std.proofs.Common.{◌≡◌, drop}
use Rattle.hp_past.specs.Names.{noted, names_in_path}
use Rattle.hp_past.proofs.names.note_path.Given as goal

abbrev pub invariant-loop-x : goal.invariant-loop-x
invariant-loop-x l = noted l.names (names_in_path (drop l.x-index l.path)) ≡ noted l.initial.names (names_in_path l.path)
