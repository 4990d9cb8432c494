use Rattle.std.proofs.Common.{subst}
use Rattle.hp_exec.specs.Answers.{Refuses}
use Rattle.hp_driver.specs.Sweeping.{tasks_name}
use Rattle.hp_driver.proofs.SweepLaws.{has_name}
use Rattle.hp_driver.proofs.sweep.exec_of_tasks.Goals as goal

pub unreachable-requires : goal.unreachable-requires
unreachable-requires c =
    let o = c.args.machines.now in
    has_name o c.requires (subst (Refuses o tasks_name) c.in-Err-NoNode.field-0-is c.in-Err-NoNode.ensures)
