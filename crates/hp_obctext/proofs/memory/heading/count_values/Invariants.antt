use Rattle.std.proofs.Common.{◌≡◌, ◌≤◌, ◌+◌, length}
use Rattle.hp_obctext.proofs.MemoryCounting.{Read}
use Rattle.hp_obctext.proofs.memory.heading.count_values.Given as goal

abbrev pub invariant-loop-line : goal.invariant-loop-line
invariant-loop-line l = Read l.text l.line.word.now l.line.rest.now l.count × (l.count + length l.line.rest.now ≤ length l.text)

abbrev pub decreases-loop-line : goal.decreases-loop-line
decreases-loop-line l = length l.line.rest.now
