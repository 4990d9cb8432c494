use Rattle.std.proofs.Common.{◌≡◌, map, length}
use Rattle.hp_parser.specs.Nesting.{AreShort}
use Rattle.hp_parser.specs.Tokens.{small}
use Rattle.hp_parser.specs.Reading.{read_token, read_names}
use Rattle.hp_parser.specs.Seen.{word_seen}
use Rattle.hp_parser.proofs.DeclarationRounds.{names_from}
use Rattle.hp_parser.proofs.reader.Reader.names_within.Given as goal

abbrev pub invariant-loop-what : goal.invariant-loop-what
invariant-loop-what l =
    record {
      read : names_from l.what l.left (map word_seen l.names.items) l.self ≡ read_names l.what (read_token small) l.fn.left l.fn.self;
      within : AreShort l.names.items;
    }

abbrev pub decreases-loop-what : goal.decreases-loop-what
decreases-loop-what l = length l.self
