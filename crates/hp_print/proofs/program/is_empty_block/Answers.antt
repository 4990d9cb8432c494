use Rattle.std.proofs.Common.{◌==◌, ◌∙◌, ap}
use Rattle.hp_print.specs.ProgramTokens.{is_empty_block}
use Rattle.hp_print.proofs.FirstLaws.{empty-block}
use Rattle.hp_print.proofs.program.is_empty_block.Goals as goal

pub returns-then-is_empty : goal.returns-then-is_empty
returns-then-is_empty c =
    let locals = c.block.inside.locals in
    let eqns = c.block.inside.eqns in
    empty-block locals.items eqns.items c.is_empty-then-is_empty.result
    (c.if-is_empty.ensures ∙ ap (λ n. n == 0) locals.ok.0)
    (c.is_empty-then-is_empty.ensures ∙ ap (λ n. n == 0) eqns.ok.0)
    ∙ ap is_empty_block c.block.view_is
