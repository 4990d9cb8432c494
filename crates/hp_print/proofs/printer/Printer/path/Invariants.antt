use Rattle.std.proofs.Common.{◌≡◌, drop}
use Rattle.hp_print.specs.Tokens.{written_after}
use Rattle.hp_print.specs.BlockTokens.{path_tokens}
use Rattle.hp_print.proofs.printer.Printer.path.Given as goal

abbrev pub invariant-loop-cons : goal.invariant-loop-cons
invariant-loop-cons l = written_after l.self (path_tokens (drop l.cons-index l.path)) ≡ written_after l.initial.self (path_tokens l.path)
