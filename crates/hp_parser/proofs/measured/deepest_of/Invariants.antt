use Rattle.std.proofs.Common.{◌≡◌, map, take}
use Rattle.hp_parser.specs.Descent.{measured_seen}
use Rattle.hp_parser.specs.Grammar.{deepest}
use Rattle.hp_parser.proofs.measured.deepest_of.Given as goal

abbrev pub invariant-loop-operand : goal.invariant-loop-operand
invariant-loop-operand l = l.height ≡ deepest (map measured_seen (take l.operand-index l.operands))
