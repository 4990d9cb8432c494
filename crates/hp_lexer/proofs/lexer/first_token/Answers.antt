use Rattle.std.proofs.Common.{sym, ◌∙◌}
use Rattle.hp_lexer.proofs.Signs.{sign_found, sign_within}
use Rattle.hp_lexer.proofs.lexer.first_token.Goals as goal

pub returns-in_ok-sign-clause-within : goal.returns-in_ok-sign-clause-within
returns-in_ok-sign-clause-within c =
    sign_within c.args.text.now c.in_ok-sign.sign c.in_ok-sign.length (sign_found c.args.text.now c.in_ok-sign.sign c.in_ok-sign.length (sym c.first_sign.ensures ∙ c.in_ok-sign.was))
