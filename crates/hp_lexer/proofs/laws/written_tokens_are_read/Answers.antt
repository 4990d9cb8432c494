use Rattle.hp_lexer.proofs.Printed.{read_again}
use Rattle.hp_lexer.proofs.laws.written_tokens_are_read.Goals as goal

pub returns : goal.returns
returns c = read_again
