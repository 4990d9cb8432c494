use Rattle.std.proofs.Common.{◌≡◌, length}
use Rattle.hp_lexer.specs.declared.token.Keyword.TheVariants.{On}
use Rattle.hp_parser.specs.BlockGrammar.{step}
use Rattle.hp_parser.specs.Grammar.{many}
use Rattle.hp_parser.specs.Tokens.{keyword}
use Rattle.hp_parser.specs.Reading.{reading}
use Rattle.hp_parser.proofs.Rounds.{many_from}
use Rattle.hp_parser.proofs.reader.Reader.path.Given as goal

abbrev pub invariant-loop-path : goal.invariant-loop-path
invariant-loop-path l = many_from (keyword On) (step reading) l.path.items l.self ≡ many reading (keyword On) (step reading) l.fn.self

abbrev pub decreases-loop-path : goal.decreases-loop-path
decreases-loop-path l = length l.self
