use Rattle.hp_driver.proofs.SegmentLaws.{stands_fresh}
use Rattle.hp_driver.proofs.checkpoint.begin.Goals as goal

pub restore-requires : goal.restore-requires
restore-requires g c = stands_fresh c.args.machines.now c.args.segment.node.now c.args.exec.now c.requires

pub returns-in-None-clause-stands : goal.returns-in-None-clause-stands
returns-in-None-clause-stands g c = stands_fresh c.args.machines.now c.args.segment.node.now c.args.exec.now c.requires
