use Rattle.std.proofs.Common.{◌∙◌}
use Rattle.std.proofs.lemmas.Result.{on_ok_weaker}
use Rattle.hp_lexer.specs.declared.token.Sign.TheVariants as mark
use Rattle.hp_print.specs.Tokens.{sign}
use Rattle.hp_print.specs.BlockTokens.{declaration_tokens}
use Rattle.hp_print.proofs.FirstLaws.{joined-first, joined-none}
use Rattle.hp_print.proofs.printer.Printer.joined_declarations.Goals as goal

pub returns-in-empty : goal.returns-in-empty
returns-in-empty c = joined-none c.args.self.now (sign mark.Semicolon) declaration_tokens c.args.decls.now c.in-empty.len_below

pub returns-in_ok-declaration-in-len1-up : goal.returns-in_ok-declaration-in-len1-up
returns-in_ok-declaration-in-len1-up c =
    on_ok_weaker c.more_parameters.result
    (λ e. e ∙ joined-first c.args.self.now (sign mark.Semicolon) declaration_tokens c.args.decls.now c.first-item.result _ c.in-len1-up.len_at_least c.first-item.is c.in_ok-declaration-in-len1-up.ensures)
    c.more_parameters.ensures
