use Rattle.std.proofs.Common.{[], sym, subst}
use Rattle.hp_io.proofs.ToldLaws.{Grows-nil}
use Rattle.hp_driver.specs.Diagnostics.{executor_line}
use Rattle.hp_driver.specs.Status.{code_of}
use Rattle.hp_driver.proofs.ChoosingLaws.{RefusedByAll, refused_failed, refused_memory, too_large}
use Rattle.hp_driver.proofs.OutcomeLaws.{told_or_not}
use Rattle.hp_driver.proofs.choosing.report_choosing.Goals as goal

pub returns-in-Limit-clause-told : goal.returns-in-Limit-clause-told
returns-in-Limit-clause-told g c =
    let line = executor_line c.in-Limit.limit in
    told_or_not (RefusedByAll c.args.error) (refused_failed c.args.error) (refused_memory c.args.error) (g.E.Sink.took c.args.diag.now) (g.E.Sink.took c.report_large.new.diag) line 1 (code_of c.report_large.result)
    c.report_large.ensures.reports (subst (λ e. RefusedByAll e line 1) (sym c.in-Limit.is) (too_large c.in-Limit.limit))

pub returns-in-OutOfMemory-clause-told : goal.returns-in-OutOfMemory-clause-told
returns-in-OutOfMemory-clause-told g c = ([], Grows-nil (g.E.Sink.took c.args.diag.now), refused_memory c.args.error)
