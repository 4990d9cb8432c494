use Rattle.std.proofs.Common.{◌≡◌, length}
use Rattle.hp_parser.specs.BlockGrammar.{locals}
use Rattle.hp_parser.specs.Reading.{reading}
use Rattle.hp_parser.proofs.DeclarationRounds.{locals_from}
use Rattle.hp_parser.proofs.reader.Reader.locals.Given as goal

abbrev pub invariant-loop-self : goal.invariant-loop-self
invariant-loop-self l = locals_from l.locals.items l.self ≡ locals reading l.fn.self

abbrev pub decreases-loop-self : goal.decreases-loop-self
decreases-loop-self l = length l.self
