use Rattle.std.proofs.Common.{◌≡◌, ◌+◌, ◌≤◌, min, drop}
use Rattle.std.specs.List.{sum_by}
use Rattle.hp_lines.specs.Lines.{word_room}
use Rattle.hp_obctext.specs.MemoryKinds.{kinds_at}
use Rattle.hp_obctext.proofs.memory.write.room_of_values.Given as goal

abbrev pub invariant-loop-value : goal.invariant-loop-value
invariant-loop-value l =
    (min 18446744073709551615 (l.room + sum_by word_room (kinds_at l.types (drop l.value-index l.values))) ≡ min 18446744073709551615 (l.front + sum_by word_room (kinds_at l.types l.values)))
    × (l.room ≤ 18446744073709551615)
