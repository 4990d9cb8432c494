use Rattle.std.proofs.Common.{[], subst}
use Rattle.hp_io.specs.Events.{put_events}
use Rattle.hp_io.proofs.ToldLaws.{Grows-nil}
use Rattle.hp_driver.specs.Follows.{Accepts}
use Rattle.hp_driver.specs.Status.{code_of}
use Rattle.hp_driver.proofs.ChoosingLaws.{swept}
use Rattle.hp_driver.proofs.OutcomeLaws.{nothing-heard}
use Rattle.hp_driver.proofs.RanLaws.{heard_nothing}
use Rattle.hp_driver.proofs.sweep.run_sweep.Goals as goal

pub returns-in-Ok-clause-outcome : goal.returns-in-Ok-clause-outcome
returns-in-Ok-clause-outcome g c =
    let said = c.say_all.ensures.accepts in
    let status = code_of c.say_all.result in (
      put_events said.0,
      [],
      said.1,
      nothing-heard (g.C.Console.left c.args.console.now) (g.C.Console.left c.say_all.new.console) said.0 c.say_all.ensures.left,
      Grows-nil (g.E.Sink.took c.args.diag.now),
      swept c.args.sweep.tasks c.args.sweep.instants c.in-Ok.text.items said.0 status c.in-Ok.ensures (subst (λ z. Accepts z said.0 status) c.deref.ensures.value said.2),
    )

pub report_stop-requires : goal.report_stop-requires
report_stop-requires g c = (c.args.sweep.tasks, c.in-Err.ensures)

pub returns-in-Err-clause-outcome : goal.returns-in-Err-clause-outcome
returns-in-Err-clause-outcome g c =
    let told = c.report_stop.ensures.told in (
      [],
      told.0,
      Grows-nil (g.C.Console.events c.args.console.now),
      heard_nothing (g.C.Console.left c.args.console.now),
      told.1,
      told.2 c.args.sweep.tasks c.args.sweep.instants c.in-Err.ensures,
    )
