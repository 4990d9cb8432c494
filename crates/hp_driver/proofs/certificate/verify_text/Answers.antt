use Rattle.std.proofs.Common.{[]}
use Rattle.hp_io.specs.Events.{put_events}
use Rattle.hp_io.proofs.ToldLaws.{Grows-nil}
use Rattle.hp_driver.proofs.CertLaws.{cert_told, verified_of}
use Rattle.hp_driver.proofs.OutcomeLaws.{nothing-heard}
use Rattle.hp_driver.proofs.RanLaws.{heard_nothing}
use Rattle.hp_driver.specs.Status.{code_of}
use Rattle.hp_driver.proofs.certificate.verify_text.Goals as goal

pub returns-in-Ok-clause-outcome : goal.returns-in-Ok-clause-outcome
returns-in-Ok-clause-outcome g c =
    let said = c.say_verdict.ensures.accepts in (
      put_events said.0,
      [],
      said.1,
      nothing-heard (g.C.Console.left c.args.console.now) (g.C.Console.left c.say_verdict.new.console) said.0 c.say_verdict.ensures.left,
      Grows-nil (g.E.Sink.took c.args.diag.now),
      verified_of c.args.m.now c.args.text.now c.outcomes_are_so.ensures c.in-Ok.proved c.in-Ok.ensures.checked said.0 (code_of c.say_verdict.result) said.2,
    )

pub returns-in-Err-clause-outcome : goal.returns-in-Err-clause-outcome
returns-in-Err-clause-outcome g c =
    let told = cert_told c.args.m.now c.args.text.now c.in-Err.error (g.E.Sink.took c.args.diag.now) (g.E.Sink.took c.report_certificate.new.diag) (code_of c.report_certificate.result) c.in-Err.ensures.refused
    c.report_certificate.ensures.reports c.report_certificate.ensures.no_memory in
    ([], told.0, Grows-nil (g.C.Console.events c.args.console.now), heard_nothing (g.C.Console.left c.args.console.now), told.1, told.2)
