use Rattle.std.proofs.Common.{Vec, Global, inl, arith}
use Rattle.hp_lexer.specs.declared.token.Token.{Token}
use Rattle.hp_lexer.proofs.Answered as answered
use Rattle.hp_lexer.proofs.Unique.{one_refusal}
use Rattle.hp_lexer.proofs.lexer.lex.Goals as goal

pub returns-then-text-most-clause-refusal_given : goal.returns-then-text-most-clause-refusal_given
returns-then-text-most-clause-refusal_given c = λ error r. inl (one_refusal c.args.text.now c.too_long.ensures r)

pub returns-clause-refused : goal.returns-clause-refused
returns-clause-refused c =
    answered.refused (λ (v : Vec Token Global). v.items) c.args.text.now (omega arith) c.read.result c.read.ensures.fails

pub returns-clause-tokens_given : goal.returns-clause-tokens_given
returns-clause-tokens_given c =
    answered.tokens_given (λ (v : Vec Token Global). v.items) c.args.text.now (omega arith) c.read.result c.read.ensures.read c.read.ensures.fails

pub returns-clause-refusal_given : goal.returns-clause-refusal_given
returns-clause-refusal_given c =
    answered.refusal_given (λ (v : Vec Token Global). v.items) c.args.text.now (omega arith) c.read.result c.read.ensures.read c.read.ensures.fails

pub returns-clause-each : goal.returns-clause-each
returns-clause-each c = answered.each (λ (v : Vec Token Global). v.items) c.args.text.now (omega arith) c.read.result c.read.ensures.read

pub returns-clause-in_order : goal.returns-clause-in_order
returns-clause-in_order c = answered.in_order (λ (v : Vec Token Global). v.items) c.args.text.now (omega arith) c.read.result c.read.ensures.read
