use Rattle.std.proofs.Common.{◌≤◌, length}
use Rattle.hp_lexer.specs.Reading.{HasRoom, Leads}
use Rattle.hp_lexer.proofs.gap.skip_blanks.Given as goal

abbrev pub invariant-loop-rest : goal.invariant-loop-rest
invariant-loop-rest l = Leads l.fn.rest.bytes.now l.fn.rest.place l.rest.bytes.now l.rest.place × HasRoom l.rest.place (length l.rest.bytes.now) × (length l.rest.bytes.now ≤ length l.fn.rest.bytes.now)

abbrev pub decreases-loop-rest : goal.decreases-loop-rest
decreases-loop-rest l = length l.rest.bytes.now
