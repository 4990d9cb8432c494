use Rattle.hp_driver.proofs.AcceptedLaws.{are_built}
use Rattle.hp_driver.proofs.compiling.machines_of.Goals as goal

pub unreachable-requires : goal.unreachable-requires
unreachable-requires c = are_built c.machines_that_choose_are_built.ensures c.args.ordered.now c.requires.arranged c.requires.kept (c.in-Err-NotBuilt.ensures c.in-Err-NotBuilt.field-0-is)
