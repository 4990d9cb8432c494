use Rattle.std.proofs.Common.{◌≡◌, length}
use Rattle.hp_parser.specs.Nesting.{placed_names_read}
use Rattle.hp_parser.proofs.TransitionRounds.{placed_from}
use Rattle.hp_parser.proofs.reader.Reader.placed_names.Given as goal

abbrev pub invariant-loop-names : goal.invariant-loop-names
invariant-loop-names l = placed_from l.names.items l.self ≡ placed_names_read l.fn.self

abbrev pub decreases-loop-names : goal.decreases-loop-names
decreases-loop-names l = length l.self
