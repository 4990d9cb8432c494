use Rattle.std.proofs.Common.{◌≡◌, map, length}
use Rattle.hp_lexer.specs.declared.token.Sign.TheVariants.{Comma}
use Rattle.hp_parser.specs.BlockGrammar.{names}
use Rattle.hp_parser.specs.Grammar.{behind}
use Rattle.hp_parser.specs.Nesting.{AreShort}
use Rattle.hp_parser.specs.Tokens.{sign_of, small}
use Rattle.hp_parser.specs.Reading.{reading, read_token}
use Rattle.hp_parser.specs.Seen.{word_seen}
use Rattle.hp_parser.proofs.Rounds.{many_from}
use Rattle.hp_parser.proofs.reader.Reader.names.Given as goal

abbrev pub invariant-loop-names : goal.invariant-loop-names
invariant-loop-names l =
    record {
      read : many_from (sign_of Comma) (behind reading (sign_of Comma) (read_token small)) (map word_seen l.names.items) l.self ≡ names reading l.fn.self;
      within : AreShort l.names.items;
    }

abbrev pub decreases-loop-names : goal.decreases-loop-names
decreases-loop-names l = length l.self
