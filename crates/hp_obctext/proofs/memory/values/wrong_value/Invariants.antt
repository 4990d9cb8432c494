use Rattle.std.proofs.Common.{◌≡◌, ◌+◌, ◌-◌, length, drop}
use Rattle.hp_lines.specs.Refusals.{wrong_word}
use Rattle.hp_obctext.specs.MemoryKinds.{kinds_at}
use Rattle.hp_obctext.specs.MemoryReading.{first_words}
use Rattle.hp_obctext.proofs.memory.values.wrong_value.Given as goal

abbrev pub invariant-loop-i : goal.invariant-loop-i
invariant-loop-i l = wrong_word (l.i + 1) (kinds_at l.types (drop l.i l.now)) (first_words (length l.now - l.i) l.rest) ≡ wrong_word 1 (kinds_at l.types l.now) (first_words (length l.now) l.lines)
