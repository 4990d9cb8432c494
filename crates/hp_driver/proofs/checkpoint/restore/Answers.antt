use Rattle.std.proofs.Common.{[], rules}
use Rattle.hp_base.specs.Limits.{most}
use Rattle.hp_base.specs.declared.limit.What.TheVariants.{Text}
use Rattle.hp_io.proofs.ToldLaws.{Grows-nil}
use Rattle.hp_driver.specs.Diagnostics.{too_long_line}
use Rattle.hp_driver.specs.Given.{GivesMoreThan}
use Rattle.hp_driver.specs.Restoring.{NotRestored}
use Rattle.hp_driver.specs.Status.{code_of}
use Rattle.hp_driver.proofs.OutcomeLaws.{told_or_not}
use Rattle.hp_driver.proofs.checkpoint.restore.Goals as goal

pub returns-in-Err-Failed-clause-told : goal.returns-in-Err-Failed-clause-told
returns-in-Err-Failed-clause-told g c = ([], Grows-nil (g.E.Sink.took c.args.diag.now), NotRestored.unread)

pub returns-in-Err-TooLong-clause-told : goal.returns-in-Err-TooLong-clause-told
returns-in-Err-TooLong-clause-told g c =
    let files = g.F.Folder.files c.args.files.now in
    let mem = c.args.mem.now in
    let long : GivesMoreThan files mem (most Text) = search rules in
    told_or_not (NotRestored files c.args.machines.now c.args.node.now mem) (λ line b rest status r. NotRestored.line_failed line b rest r) NotRestored.no_memory (g.E.Sink.took c.args.diag.now) (g.E.Sink.took c.report_too_long.new.diag)
    (too_long_line Text) 1 (code_of c.report_too_long.result) c.report_too_long.ensures.reports (NotRestored.too_long long)

pub returns-clause-told : goal.returns-clause-told
returns-clause-told g c = ([], Grows-nil (g.E.Sink.took c.args.diag.now), NotRestored.no_memory)
