use Rattle.std.proofs.Common.{drop, ap, sym, ◌∙◌, arith}
use Rattle.std.proofs.lemmas.List.{take_rest}
use Rattle.hp_lexer.specs.Reading.{comment_end, along}
use Rattle.hp_lexer.proofs.Pieces.{leads_comment, unclosed}
use Rattle.hp_lexer.proofs.gap.skip_gap.Goals as goal

pub loop-found-preserved : goal.loop-found-preserved
loop-found-preserved c =
    let rest = c.skip_blanks-found.result.bytes.now in
    let place = c.skip_blanks-found.result.place in
    let end = sym (c.in-Some.ensures.end ∙ ap (λ z. comment_end 1 z c.along.result) (take_rest rest 2) ∙ ap (comment_end 1 (drop 2 rest)) c.along.ensures) in (
      λ text tokens s. leads_comment rest place c.in-Some.behind.bytes.now c.in-Some.behind.place (sym c.if-not-opens_comment.ensures) end text tokens (c.skip_blanks-found.ensures.leads text tokens (c.loop-found.invariant.0 text tokens s)),
      c.in-Some.ensures.room,
      omega (arith, c.in-Some.ensures.shorter),
    )

pub returns-in_default-clause-unended : goal.returns-in_default-clause-unended
returns-in_default-clause-unended c =
    let rest = c.skip_blanks-found.result.bytes.now in
    let place = c.skip_blanks-found.result.place in
    let end = sym (c.in_default.ensures.end ∙ ap (λ z. comment_end 1 z c.along.result) (take_rest rest 2) ∙ ap (comment_end 1 (drop 2 rest)) c.along.ensures) in
    record {
      behind = rest;
      leads = λ text tokens s. c.skip_blanks-found.ensures.leads text tokens (c.loop-found.invariant.0 text tokens s);
      room = c.skip_blanks-found.ensures.room;
      unclosed = unclosed rest (along place 2) (sym c.if-not-opens_comment.ensures) end;
    }
