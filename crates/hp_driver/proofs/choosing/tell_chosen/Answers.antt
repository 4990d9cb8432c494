use Rattle.std.proofs.Common.{[], subst}
use Rattle.hp_io.proofs.ToldLaws.{Grows-nil}
use Rattle.hp_driver.specs.Teller.{telling}
use Rattle.hp_driver.specs.Ran.{Ran}
use Rattle.hp_driver.specs.Status.{code_of}
use Rattle.hp_driver.specs.Systems.{that_tells}
use Rattle.hp_driver.proofs.ChoosingLaws.{told_ran, chosen_memory, is_there}
use Rattle.hp_driver.proofs.ExecutionLaws.{few_inputs, behaves}
use Rattle.hp_driver.proofs.RanLaws.{heard_nothing}
use Rattle.hp_driver.proofs.choosing.tell_chosen.Goals as goal

pub report_choosing-requires : goal.report_choosing-requires
report_choosing-requires g c = is_there c.args.machines.now c.args.name.now c.in-Err.error c.requires.there c.in-Err.ensures

pub returns-in-Err-clause-outcome : goal.returns-in-Err-clause-outcome
returns-in-Err-clause-outcome g c =
    let told = c.report_choosing.ensures.told in
    let name = c.args.name.now in (
      [],
      told.0,
      Grows-nil (g.C.Console.events c.args.console.now),
      heard_nothing (g.C.Console.left c.args.console.now),
      told.1,
      told.2 name (that_tells c.args.ending c.args.machines.now c.args.name.now) c.args.machines.now c.in-Err.ensures,
    )

pub new-requires-2-clause-few : goal.new-requires-2-clause-few
new-requires-2-clause-few g c = few_inputs c.args.machines.now c.args.name.now c.in-Ok.exec c.requires.form c.in-Ok.ensures

pub new-requires-2-clause-behaves : goal.new-requires-2-clause-behaves
new-requires-2-clause-behaves g c = behaves c.args.machines.now c.args.name.now c.in-Ok.exec c.in-Ok.ensures

pub returns-in_default-clause-outcome : goal.returns-in_default-clause-outcome
returns-in_default-clause-outcome g c = (
  [],
  [],
  Grows-nil (g.C.Console.events c.args.console.now),
  heard_nothing (g.C.Console.left c.args.console.now),
  Grows-nil (g.E.Sink.took c.args.diag.now),
  chosen_memory (that_tells c.args.ending c.args.machines.now c.args.name.now) c.args.machines.now c.args.name.now,
)

pub returns-clause-outcome : goal.returns-clause-outcome
returns-clause-outcome g c =
    let name = c.args.name.now in
    let o = c.args.machines.now in
    let e = c.in-Ok.exec in
    let ran = c.run_trace.ensures.ran in (
      ran.0,
      ran.1,
      ran.2,
      ran.3,
      ran.4,
      told_ran c.args.ending o name e ran.0 ran.1 (code_of c.run_trace.result) c.in-Ok.ensures
          (subst (λ s. Ran telling s ran.0 ran.1 (code_of c.run_trace.result)) c.in-Ok-new.ensures ran.5.0),
    )
