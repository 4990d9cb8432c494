use Rattle.std.proofs.Common.{◌≡◌, drop, map}
use Rattle.hp_lexer.specs.declared.token.Sign.TheVariants as mark
use Rattle.hp_print.specs.Tokens.{sign, led_by, written_after}
use Rattle.hp_print.specs.BlockTokens.{transition_tokens}
use Rattle.hp_print.proofs.printer.Printer.more_transitions.Given as goal

abbrev pub invariant-loop-transition : goal.invariant-loop-transition
invariant-loop-transition l = written_after l.self (led_by (sign mark.Bar) (map transition_tokens (drop l.transition-index l.transitions))) ≡ written_after l.initial.self (led_by (sign mark.Bar) (map transition_tokens l.transitions))
