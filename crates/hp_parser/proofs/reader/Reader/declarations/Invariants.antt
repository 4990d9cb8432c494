use Rattle.std.proofs.Common.{◌≡◌, length}
use Rattle.hp_parser.specs.BlockGrammar.{declarations}
use Rattle.hp_parser.specs.Nesting.{last_if}
use Rattle.hp_parser.specs.Reading.{reading}
use Rattle.hp_parser.proofs.DeclarationRounds.{declarations_from}
use Rattle.hp_parser.proofs.reader.Reader.declarations.Given as goal

abbrev pub invariant-loop-what : goal.invariant-loop-what
invariant-loop-what l = declarations_from l.what l.may_last l.left l.declarations.items l.self ≡ declarations reading l.what l.fn.left (last_if l.may_last) l.fn.self

abbrev pub decreases-loop-what : goal.decreases-loop-what
decreases-loop-what l = length l.self
