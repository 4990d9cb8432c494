use Rattle.hp_machines.proofs.MakingLaws.{made-one}
use Rattle.hp_machines.proofs.node.machine_of.Goals as goal

pub returns-in-Ok : goal.returns-in-Ok
returns-in-Ok c =
    let scheduled = c.in_ok-scheduled.ensures in
    made-one c.args.types.now c.args.node c.in_ok-scheduled.scheduled.node c.in_ok-plain.plain.node c.in_ok-machine.machine c.in-Ok.machine
    scheduled.name scheduled.variables scheduled.inputs scheduled.outputs scheduled.same scheduled.order scheduled.by_clock c.in_ok-plain.ensures.node c.in_ok-machine.ensures c.in-Ok.ensures.fused
