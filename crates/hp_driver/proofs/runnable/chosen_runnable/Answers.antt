use Rattle.std.proofs.Common.{[]}
use Rattle.hp_driver.specs.Status.{code_of}
use Rattle.hp_driver.specs.Systems.{of_machine}
use Rattle.hp_driver.proofs.ChoosingLaws.{chosen_there, is_there, node_ran}
use Rattle.hp_driver.proofs.runnable.chosen_runnable.Goals as goal

pub report_choosing-requires : goal.report_choosing-requires
report_choosing-requires g c = is_there c.args.machines c.args.name.now c.in-Err.error (chosen_there c.args.machines c.args.name.now c.args.node.now c.requires) c.in-Err.ensures

pub returns-in-Err-clause-told : goal.returns-in-Err-clause-told
returns-in-Err-clause-told g c =
    let o = c.args.machines in
    let n = c.args.node.now in
    let name = c.args.name.now in
    let told = c.report_choosing.ensures.told in
    (told.0, told.1, node_ran o n name [] told.0 (code_of c.report_choosing.result) c.requires (told.2 name (of_machine o name) o c.in-Err.ensures))
