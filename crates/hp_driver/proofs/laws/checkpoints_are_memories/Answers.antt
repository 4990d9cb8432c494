use Rattle.hp_driver.proofs.SegmentCalls.{one_memory, taken}
use Rattle.hp_driver.proofs.laws.checkpoints_are_memories.Goals as goal

pub returns-clause-taken : goal.returns-clause-taken
returns-clause-taken c = taken

pub returns-clause-one : goal.returns-clause-one
returns-clause-one c = one_memory
