use Rattle.std.proofs.Common.{◌≡◌, drop, map}
use Rattle.hp_lexer.specs.declared.token.Sign.TheVariants as mark
use Rattle.hp_print.specs.Tokens.{sign, ended_by, written_after}
use Rattle.hp_print.specs.BlockTokens.{declaration_tokens}
use Rattle.hp_print.proofs.printer.Printer.declarations.Given as goal

abbrev pub invariant-loop-decl : goal.invariant-loop-decl
invariant-loop-decl l = written_after l.self (ended_by (sign mark.Semicolon) (map declaration_tokens (drop l.decl-index l.decls))) ≡ written_after l.initial.self (ended_by (sign mark.Semicolon) (map declaration_tokens l.decls))
