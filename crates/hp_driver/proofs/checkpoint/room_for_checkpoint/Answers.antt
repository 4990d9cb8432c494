use Rattle.std.proofs.Common.{sym, subst}
use Rattle.hp_obctext.specs.MemoryKinds.{AreOfTypes}
use Rattle.hp_driver.proofs.SegmentLaws.{of_types}
use Rattle.hp_driver.proofs.checkpoint.room_for_checkpoint.Goals as goal

pub memory_room-room-requires-clause-kinds : goal.memory_room-room-requires-clause-kinds
memory_room-room-requires-clause-kinds c = subst (AreOfTypes c.args.machines.now.types) (sym c.memory.ensures.values) (of_types c.args.machines.now c.args.node.now c.args.exec.now c.requires)
