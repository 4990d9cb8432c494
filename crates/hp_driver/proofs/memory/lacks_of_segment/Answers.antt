use Rattle.hp_driver.proofs.ClaimLaws.{lacks_checkpoint, lacks_source}
use Rattle.hp_driver.proofs.memory.lacks_of_segment.Goals as goal

pub returns-then-is_absent : goal.returns-then-is_absent
returns-then-is_absent c words w absent = lacks_source words c.args.files.now.files c.args.segment w (c.is_absent.ensures absent)

pub returns-else-is_absent : goal.returns-else-is_absent
returns-else-is_absent c words w absent = lacks_checkpoint words c.args.files.now.files c.args.segment c.in-Some.mem c.in-Some.is w (c.is_absent-else-is_absent.ensures absent)

pub returns-in-None : goal.returns-in-None
returns-in-None c words w absent = lacks_source words c.args.files.now.files c.args.segment w (c.is_absent-in-None.ensures absent)
