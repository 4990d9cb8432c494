use Rattle.std.proofs.Common.{[]}
use Rattle.hp_io.proofs.ToldLaws.{Grows-nil}
use Rattle.hp_driver.proofs.MachineLaws.{in_text, types_of_text}
use Rattle.hp_driver.proofs.RanLaws.{heard_nothing}
use Rattle.hp_driver.specs.Status.{code_of}
use Rattle.hp_driver.proofs.machines.run_machine.Goals as goal

pub returns-in-Ok-clause-outcome : goal.returns-in-Ok-clause-outcome
returns-in-Ok-clause-outcome g c =
    let ran = c.run_machines.ensures.outcome in (
      ran.0,
      ran.1,
      ran.2,
      ran.3,
      ran.4,
      in_text c.args.text.now c.args.node.now c.in-Ok.machines ran.0 ran.1 (code_of c.run_machines.result) c.in-Ok.ensures.machines ran.5,
    )

pub returns-in-Err-clause-outcome : goal.returns-in-Err-clause-outcome
returns-in-Err-clause-outcome g c =
    let told = c.report_text.ensures.told in (
      [],
      told.0,
      Grows-nil (g.C.Console.events c.args.console.now),
      heard_nothing (g.C.Console.left c.args.console.now),
      told.1,
      told.2 c.args.text.now c.args.node.now c.in-Err.ensures.refused,
    )

pub run_machines-requires : goal.run_machines-requires
run_machines-requires g c = types_of_text c.args.text.now c.in-Ok.machines c.in-Ok.ensures.machines
