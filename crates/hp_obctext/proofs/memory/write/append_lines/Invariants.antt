use Rattle.std.proofs.Common.{◌≡◌, ◌+◌, ◌≤◌, ◌++◌, drop, vec_len, vec_capacity}
use Rattle.std.specs.List.{sum_by}
use Rattle.hp_lines.specs.Lines.{texts_of, word_room}
use Rattle.hp_obctext.specs.MemoryKinds.{kinds_at, AreOfTypes}
use Rattle.hp_obctext.specs.MemoryTexts.{joined, value_lines}
use Rattle.hp_obctext.proofs.memory.write.append_lines.Given as goal

abbrev pub invariant-loop-i : goal.invariant-loop-i
invariant-loop-i l =
    (l.into.items ++ joined (value_lines (texts_of (kinds_at l.types (drop l.i l.values)) (drop l.i l.values))) ≡ l.initial.into.items ++ joined (value_lines (texts_of (kinds_at l.types l.values) l.values)))
    × AreOfTypes l.types (drop l.i l.values)
    × (vec_len l.into + sum_by word_room (kinds_at l.types (drop l.i l.values)) ≤ vec_len l.initial.into + sum_by word_room (kinds_at l.types l.values))
    × (vec_capacity l.initial.into ≤ vec_capacity l.into)
