use Rattle.std.proofs.Common.{◌≡◌, [], length, subst, sym}
use Rattle.std.proofs.lemmas.Bool.{eqb-true}
use Rattle.std.proofs.lemmas.Result.{err_from_is_err_and}
use Rattle.std.proofs.lemmas.List.{nil_from_length}
use Rattle.hp_lexer.specs.Reading.{Fails, Stands}
use Rattle.hp_lexer.specs.declared.lexer.LexErr.TheVariants.{Bad}
use Rattle.hp_lexer.proofs.Pieces.{ends, unended}
use Rattle.hp_lexer.proofs.lexer.next.Goals as goal

pub returns-then-is_empty-clause-next : goal.returns-then-is_empty-clause-next
returns-then-is_empty-clause-next c =
    let rest = c.in-Ok.found.bytes.now in
    let empty : rest ≡ [] = nil_from_length rest (eqb-true (length rest) 0 (sym c.if-is_empty.ensures)) in
    λ text tokens s. ends c.in-Ok.found.place text tokens (subst (λ r. Stands text tokens r c.in-Ok.found.place) empty (c.in-Ok.ensures.gap.leads text tokens s))

pub returns-in_err-token-in-Ok-clause-fails : goal.returns-in_err-token-in-Ok-clause-fails
returns-in_err-token-in-Ok-clause-fails c =
    let p = err_from_is_err_and c.from_residual.result c.from_residual.ensures.1 in
    rw (p.1, p.2) (λ text tokens s. c.in_err-token-in-Ok.ensures.fails text tokens (c.in-Ok.ensures.gap.leads text tokens s))

pub returns-in-Err-clause-fails : goal.returns-in-Err-clause-fails
returns-in-Err-clause-fails c =
    subst (λ s. Fails c.args.rest.bytes.now c.args.rest.place (Bad s)) (sym c.span.ensures) (unended c.args.rest.bytes.now c.args.rest.place c.in-Err.at c.in-Err.ensures.unended)
