use Rattle.std.proofs.Common.{[], length, subst, sym, arith}
use Rattle.std.proofs.lemmas.Result.{err_from_is_err_and}
use Rattle.hp_lexer.specs.Reading.{HasRoom, Stands, place_behind}
use Rattle.hp_lexer.proofs.Pieces.{stands_at_start, room_behind}
use Rattle.hp_lexer.proofs.lexer.read.Goals as goal

pub loop-tokens-init : goal.loop-tokens-init
loop-tokens-init c =
    let text = c.args.text.now in (
      subst (λ p. Stands text c.new-tokens.result.items text p) (sym c.start.ensures) (subst (λ t. Stands text t text (place_behind [])) (sym c.new-tokens.ensures.items) (stands_at_start text)),
      subst (λ p. HasRoom p (length text)) (sym c.start.ensures) (room_behind [] (length text) (omega arith)),
    )

pub returns-in_err-token-clause-fails : goal.returns-in_err-token-clause-fails
returns-in_err-token-clause-fails c =
    let p = err_from_is_err_and c.from_residual.result c.from_residual.ensures.1 in
    rw (p.1, p.2) (λ some. c.in_err-token.ensures.fails c.args.text.now c.loop-tokens.tokens.items c.loop-tokens.invariant.0)
