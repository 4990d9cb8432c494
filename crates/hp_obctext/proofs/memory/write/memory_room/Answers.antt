use Rattle.std.proofs.Common.{◌≡◌, rules}
use Rattle.hp_obctext.specs.MemoryKinds.{kinds_at, memory_bound}
use Rattle.hp_obctext.proofs.MemorySizes.{text_is_bounded_by}
use Rattle.hp_obctext.proofs.memory.write.memory_room.Goals as goal

pub returns-clause-bounds : goal.returns-clause-bounds
returns-clause-bounds c = λ others k.
    let o = c.args.o.now in
    let exact : c.room_of_values.result ≡ memory_bound c.args.node.now (kinds_at o.types c.args.values.now) = search rules in
    text_is_bounded_by o.types c.args.node.now c.args.values.now others c.room_of_values.result exact c.requires.kinds k
