use Rattle.std.proofs.Common.{ℕ, List, ◌∙◌, sym, ap}
use Rattle.std.proofs.lemmas.Result.{on_ok_weaker}
use Rattle.hp_base.specs.declared.span.Span.{Span}
use Rattle.hp_lexer.specs.declared.token.Sign.TheVariants as mark
use Rattle.hp_print.specs.Tokens.{sign, written_after}
use Rattle.hp_print.specs.BlockTokens.{left_name}
use Rattle.hp_print.proofs.FirstLaws.{joined-first, joined-none}
use Rattle.hp_print.proofs.printer.Printer.names.Goals as goal

pub returns-in-empty : goal.returns-in-empty
returns-in-empty c = joined-none c.args.self.now (sign mark.Comma) left_name c.args.names.now c.in-empty.len_below

pub returns-in_ok-small-in-len1-up : goal.returns-in_ok-small-in-len1-up
returns-in_ok-small-in-len1-up c =
    on_ok_weaker c.more_names.result
    (λ e. e ∙ joined-first c.args.self.now (sign mark.Comma) left_name c.args.names.now c.index-names-0.result _ c.in-len1-up.len_at_least c.index-names-0.is (c.in_ok-small-in-len1-up.ensures ∙ ap (λ (x : List ℕ × Span). written_after c.args.self.now (left_name x)) (sym c.index-names-0.is)))
    c.more_names.ensures
