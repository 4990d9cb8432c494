use Rattle.std.proofs.Common.{[], subst}
use Rattle.hp_io.proofs.ToldLaws.{Grows-nil}
use Rattle.hp_driver.specs.Executing.{executing}
use Rattle.hp_driver.specs.Outcome.{Outcome}
use Rattle.hp_driver.specs.Ran.{Ran}
use Rattle.hp_driver.proofs.ExecutionLaws.{few_inputs}
use Rattle.hp_driver.proofs.MachineLaws.{machine_ran}
use Rattle.hp_driver.proofs.RanLaws.{heard_nothing}
use Rattle.hp_driver.specs.Status.{code_of}
use Rattle.hp_driver.proofs.machines.run_machines.Goals as goal

pub returns-in-Err-clause-outcome : goal.returns-in-Err-clause-outcome
returns-in-Err-clause-outcome g c =
    let told = c.report_machine.ensures.told in (
      [],
      told.0,
      Grows-nil (g.C.Console.events c.args.console.now),
      heard_nothing (g.C.Console.left c.args.console.now),
      told.1,
      told.2 c.args.machines.now c.in-Err.ensures,
    )

pub new-requires-2-clause-few : goal.new-requires-2-clause-few
new-requires-2-clause-few g c = few_inputs c.args.machines.now c.args.node.now c.in-Ok.exec c.requires c.in-Ok.ensures

pub returns-in_default-clause-outcome : goal.returns-in_default-clause-outcome
returns-in_default-clause-outcome g c = (
  [],
  [],
  Grows-nil (g.C.Console.events c.args.console.now),
  heard_nothing (g.C.Console.left c.args.console.now),
  Grows-nil (g.E.Sink.took c.args.diag.now),
  λ words files file w machines. Outcome.no_memory,
)

pub returns-clause-outcome : goal.returns-clause-outcome
returns-clause-outcome g c =
    let node = c.args.node.now in
    let o = c.args.machines.now in
    let e = c.in-Ok.exec in
    let ran = c.run_trace.ensures.ran in (
      ran.0,
      ran.1,
      ran.2,
      ran.3,
      ran.4,
      machine_ran node o e ran.0 ran.1 (code_of c.run_trace.result) c.in-Ok.ensures
          (subst (λ s. Ran executing s ran.0 ran.1 (code_of c.run_trace.result)) c.in-Ok-new.ensures ran.5.0),
    )
