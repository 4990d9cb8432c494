use Rattle.std.proofs.Common.{◌≡◌, ◌≤◌, ◌<◌, ◌+◌, length}
use Rattle.hp_lexer.specs.Reading.{HasRoom, comment_end}
use Rattle.hp_lexer.proofs.gap.skip_comment.Given as goal

abbrev pub invariant-loop-bytes : goal.invariant-loop-bytes
invariant-loop-bytes l =
    (comment_end l.open l.bytes l.place ≡ comment_end 1 l.fn.rest.bytes.now l.fn.rest.place)
    × HasRoom l.place (length l.bytes)
    × (length l.bytes ≤ length l.fn.rest.bytes.now)
    × (0 < l.open)
    × (l.open + length l.bytes ≤ length l.fn.rest.bytes.now + 1)

abbrev pub decreases-loop-bytes : goal.decreases-loop-bytes
decreases-loop-bytes l = length l.bytes
