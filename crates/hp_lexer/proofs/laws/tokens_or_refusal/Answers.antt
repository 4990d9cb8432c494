use Rattle.hp_lexer.proofs.Total as total
use Rattle.hp_lexer.proofs.laws.tokens_or_refusal.Goals as goal

pub returns : goal.returns
returns c = total.tokens_or_refusal
