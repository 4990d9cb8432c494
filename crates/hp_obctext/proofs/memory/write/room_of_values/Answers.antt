use Rattle.std.proofs.Common.{◌≡◌, ◌+◌, ◌≤◌, min, length, arith}
use Rattle.std.specs.List.{sum_by}
use Rattle.hp_lines.specs.Lines.{word_room}
use Rattle.hp_obctext.specs.MemoryKinds.{kinds_at}
use Rattle.hp_obctext.proofs.MemorySizes.{room_end}
use Rattle.hp_obctext.proofs.memory.write.room_of_values.Goals as goal

pub returns : goal.returns
returns c =
    let values = c.args.values.now in
    let types = c.args.types.now in
    let end : length values ≤ c.loop-value.value-index = omega arith in
    room_end types values c.loop-value.value-index c.loop-value.room (min 18446744073709551615 (c.args.front + sum_by word_room (kinds_at types values))) end c.loop-value.invariant.1 c.loop-value.invariant.0
