use Rattle.std.proofs.Common.{◌≡◌, ◌-◌, ◌++◌, List, length, take, drop, Some}
use Rattle.hp_base.specs.declared.value.Value.{Value}
use Rattle.hp_lines.specs.Values.{values_of}
use Rattle.hp_obctext.specs.MemoryKinds.{kinds_at}
use Rattle.hp_obctext.specs.MemoryReading.{first_words}
use Rattle.hp_obctext.proofs.memory.values.fill.Given as goal

abbrev pub invariant-loop-i : goal.invariant-loop-i
invariant-loop-i l =
    (values : List Value)
    × (values_of (kinds_at l.types (drop l.i l.now)) (first_words (length l.now - l.i) l.rest) ≡ Some values)
    × (values_of (kinds_at l.types l.now) (first_words (length l.now) l.lines) ≡ Some (take l.i l.into ++ values))
