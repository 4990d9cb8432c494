use Rattle.hp_lexer.proofs.Facts.{tokens_in}
use Rattle.hp_parser.proofs.reader.Reader.new.Goals as goal

pub invariant_of-result : goal.invariant_of-result
invariant_of-result c = tokens_in c.args.text.now c.args.tokens.now c.requires
