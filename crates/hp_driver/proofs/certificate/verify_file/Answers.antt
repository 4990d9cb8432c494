use Rattle.std.proofs.Common.{[], rules}
use Rattle.hp_base.specs.Limits.{most}
use Rattle.hp_base.specs.declared.limit.What.TheVariants.{Text}
use Rattle.hp_io.proofs.ToldLaws.{Grows-nil}
use Rattle.hp_driver.specs.Outcome.{Gives, GivesMoreThan, Outcome}
use Rattle.hp_driver.proofs.CertLaws.{long_told, unread_told}
use Rattle.hp_driver.proofs.RanLaws.{heard_nothing}
use Rattle.hp_driver.specs.Status.{code_of}
use Rattle.hp_driver.proofs.certificate.verify_file.Goals as goal

pub returns-in-Err-Failed-clause-outcome : goal.returns-in-Err-Failed-clause-outcome
returns-in-Err-Failed-clause-outcome g c = (
  [],
  [],
  Grows-nil (g.C.Console.events c.args.console.now),
  heard_nothing (g.C.Console.left c.args.console.now),
  Grows-nil (g.E.Sink.took c.args.diag.now),
  unread_told (g.F.Folder.files c.args.files.now) c.args.cert.now c.args.m.now,
)

pub returns-in-Err-TooLong-clause-outcome : goal.returns-in-Err-TooLong-clause-outcome
returns-in-Err-TooLong-clause-outcome g c =
    let files = g.F.Folder.files c.args.files.now in
    let long : GivesMoreThan files c.args.cert.now (most Text) = search rules in
    let told = long_told files c.args.cert.now c.args.m.now (g.E.Sink.took c.args.diag.now) (g.E.Sink.took c.report_too_long.new.diag) (code_of c.report_too_long.result) long c.report_too_long.ensures.reports in
    ([], told.0, Grows-nil (g.C.Console.events c.args.console.now), heard_nothing (g.C.Console.left c.args.console.now), told.1, told.2)

pub returns-clause-outcome : goal.returns-clause-outcome
returns-clause-outcome g c = (
  [],
  [],
  Grows-nil (g.C.Console.events c.args.console.now),
  heard_nothing (g.C.Console.left c.args.console.now),
  Grows-nil (g.E.Sink.took c.args.diag.now),
  λ words file name k is w. Outcome.no_memory,
)

pub returns-in-Ok-clause-outcome : goal.returns-in-Ok-clause-outcome
returns-in-Ok-clause-outcome g c =
    let files = g.F.Folder.files c.args.files.now in
    let gives : Gives files c.args.cert.now c.as_slice.result.now = search rules in
    let ran = c.verify_text.ensures.outcome in
    (ran.0, ran.1, ran.2, ran.3, ran.4, ran.5 files c.args.cert.now gives)
