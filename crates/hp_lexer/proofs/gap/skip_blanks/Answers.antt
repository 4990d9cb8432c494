use Rattle.std.proofs.Common.{sym, arith}
use Rattle.hp_lexer.proofs.Pieces.{blank_turn}
use Rattle.hp_lexer.proofs.gap.skip_blanks.Goals as goal

pub loop-rest-preserved : goal.loop-rest-preserved
loop-rest-preserved c =
    blank_turn c.loop-rest.rest.bytes.now c.loop-rest.rest.place c.behind.result c.args.rest.bytes.now c.args.rest.place (omega arith) c.loop-rest.invariant.0 c.loop-rest.invariant.1 c.loop-rest.invariant.2
    (sym c.if-not-is_blank_byte.ensures) c.behind.ensures
