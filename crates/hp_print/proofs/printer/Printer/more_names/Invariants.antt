use Rattle.std.proofs.Common.{◌≡◌, drop, map}
use Rattle.hp_lexer.specs.declared.token.Sign.TheVariants as mark
use Rattle.hp_print.specs.Tokens.{sign, led_by, written_after}
use Rattle.hp_print.specs.BlockTokens.{left_name}
use Rattle.hp_print.proofs.printer.Printer.more_names.Given as goal

abbrev pub invariant-loop-name : goal.invariant-loop-name
invariant-loop-name l = written_after l.self (led_by (sign mark.Comma) (map left_name (drop l.name-index l.names))) ≡ written_after l.initial.self (led_by (sign mark.Comma) (map left_name l.names))
