use Rattle.std.proofs.Common.{◌≡◌, length, Some}
use Rattle.hp_parser.specs.Programs.{read_program}
use Rattle.hp_parser.proofs.ItemRounds.{items_from}
use Rattle.hp_parser.proofs.reader.Reader.program.Given as goal

abbrev pub invariant-loop-self : goal.invariant-loop-self
invariant-loop-self l = items_from (Some l.left) l.items.items l.self ≡ read_program l.fn.self

abbrev pub decreases-loop-self : goal.decreases-loop-self
decreases-loop-self l = length l.self
