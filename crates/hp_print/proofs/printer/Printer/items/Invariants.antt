use Rattle.std.proofs.Common.{◌≡◌, drop}
use Rattle.hp_print.specs.Tokens.{written_after}
use Rattle.hp_print.specs.ProgramTokens.{program_tokens}
use Rattle.hp_print.proofs.printer.Printer.items.Given as goal

abbrev pub invariant-loop-item : goal.invariant-loop-item
invariant-loop-item l = written_after l.self (program_tokens (drop l.item-index l.items)) ≡ written_after l.initial.self (program_tokens l.items)
