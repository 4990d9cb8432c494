use Rattle.std.proofs.Common.{length}
use Rattle.hp_lexer.specs.Reading.{HasRoom, Stands}
use Rattle.hp_lexer.proofs.lexer.read.Given as goal

abbrev pub invariant-loop-tokens : goal.invariant-loop-tokens
invariant-loop-tokens l = Stands l.text l.tokens.items l.rest.bytes.now l.rest.place × HasRoom l.rest.place (length l.rest.bytes.now)

abbrev pub decreases-loop-tokens : goal.decreases-loop-tokens
decreases-loop-tokens l = length l.rest.bytes.now
