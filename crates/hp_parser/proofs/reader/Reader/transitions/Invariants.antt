use Rattle.std.proofs.Common.{◌≡◌, length}
use Rattle.hp_lexer.specs.declared.token.Sign.TheVariants.{Bar}
use Rattle.hp_parser.specs.BlockGrammar.{transition, transitions}
use Rattle.hp_parser.specs.Grammar.{behind}
use Rattle.hp_parser.specs.Nesting.{expression_read}
use Rattle.hp_parser.specs.Tokens.{sign_of}
use Rattle.hp_parser.specs.Reading.{reading}
use Rattle.hp_parser.proofs.Rounds.{many_from}
use Rattle.hp_parser.proofs.reader.Reader.transitions.Given as goal

abbrev pub invariant-loop-transitions : goal.invariant-loop-transitions
invariant-loop-transitions l =
    many_from (sign_of Bar) (behind reading (sign_of Bar) (transition reading expression_read)) l.transitions.items l.self ≡ transitions reading expression_read l.fn.self

abbrev pub decreases-loop-transitions : goal.decreases-loop-transitions
decreases-loop-transitions l = length l.self
