use Rattle.std.proofs.Common.{◌≤◌, length}
use Rattle.hp_lexer.specs.Reading.{HasRoom, Leads}
use Rattle.hp_lexer.proofs.gap.skip_gap.Given as goal

abbrev pub invariant-loop-found : goal.invariant-loop-found
invariant-loop-found l = Leads l.fn.rest.bytes.now l.fn.rest.place l.rest.bytes.now l.rest.place × HasRoom l.rest.place (length l.rest.bytes.now) × (length l.rest.bytes.now ≤ length l.fn.rest.bytes.now)

abbrev pub decreases-loop-found : goal.decreases-loop-found
decreases-loop-found l = length l.rest.bytes.now
