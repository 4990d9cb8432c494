use Rattle.std.proofs.Common.{◌≡◌, map, take}
use Rattle.hp_parser.specs.Descent.{part_seen, end_of}
use Rattle.hp_parser.proofs.measured.end_of_parts.Given as goal

abbrev pub invariant-loop-part : goal.invariant-loop-part
invariant-loop-part l = l.end ≡ end_of (map part_seen (take l.part-index l.parts))
