use Rattle.hp_lexer.proofs.Unique.{one_list, one_refusal, not_both}
use Rattle.hp_lexer.proofs.laws.one_reading.Goals as goal

pub returns-clause-tokens : goal.returns-clause-tokens
returns-clause-tokens c = one_list

pub returns-clause-refusal : goal.returns-clause-refusal
returns-clause-refusal c = λ text error other a b. one_refusal text a b

pub returns-clause-not_both : goal.returns-clause-not_both
returns-clause-not_both c = λ text tokens error a b. not_both text tokens a b
