use Rattle.std.proofs.Common.{◌≡◌, map, take}
use Rattle.hp_parser.specs.Descent.{measured_seen}
use Rattle.hp_parser.specs.Grammar.{deepest}
use Rattle.hp_parser.proofs.measured.deepest_part.Given as goal

abbrev pub invariant-loop-part : goal.invariant-loop-part
invariant-loop-part l = l.height ≡ deepest (map (λ p. measured_seen p.value) (take l.part-index l.parts))
