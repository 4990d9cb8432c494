use Rattle.std.proofs.Common.{[], arith}
use Rattle.hp_io.proofs.ToldLaws.{Grows-nil}
use Rattle.hp_driver.specs.BadLines.{bad_line_line}
use Rattle.hp_driver.specs.Ran.{Ran}
use Rattle.hp_driver.proofs.RanLaws.{heard_nothing, bad_line_not_done, reported}
use Rattle.hp_driver.specs.Status.{code_of}
use Rattle.hp_driver.proofs.run.run_trace.Goals as goal

pub returns-in_default-clause-ran : goal.returns-in_default-clause-ran
returns-in_default-clause-ran g c =
    ([], [], Grows-nil (g.C.Console.events c.args.console.now), heard_nothing (g.C.Console.left c.args.console.now), Grows-nil (g.E.Sink.took c.args.diag.now), (Ran.no_memory, λ done. absurd (omega (arith, done))))

pub returns-in-Done-clause-ran : goal.returns-in-Done-clause-ran
returns-in-Done-clause-ran g c =
    let k = c.in-Done.ensures.course in
    (k.0, [], k.1, k.2, Grows-nil (g.E.Sink.took c.args.diag.now), (Ran.done k.3, λ done. k.4))

pub returns-in-Refused-clause-ran : goal.returns-in-Refused-clause-ran
returns-in-Refused-clause-ran g c =
    let k = c.in-Refused.ensures.course in
    let line = c.in-Refused.line in
    let told = reported g.R.Reactor.machine c.args.reactor.now k.0 (g.E.Sink.took c.args.diag.now) (g.E.Sink.took c.report_bad_line.new.diag)
    (bad_line_line line) 3 (code_of c.report_bad_line.result) c.report_bad_line.ensures.reports (Ran.refused line k.3) in
    (k.0, told.0, k.1, k.2, told.1, (told.2, λ done. absurd (bad_line_not_done (g.E.Sink.took c.args.diag.now) (g.E.Sink.took c.report_bad_line.new.diag) (bad_line_line line) (code_of c.report_bad_line.result) c.report_bad_line.ensures.reports done)))

pub returns-in-TakeFailed-clause-ran : goal.returns-in-TakeFailed-clause-ran
returns-in-TakeFailed-clause-ran g c =
    let k = c.in-TakeFailed.ensures.course in
    (k.0, [], k.1, k.2, Grows-nil (g.E.Sink.took c.args.diag.now), (Ran.take_failed k.3, λ done. absurd (omega (arith, done))))

pub returns-clause-ran : goal.returns-clause-ran
returns-clause-ran g c =
    let k = c.in-PutFailed.ensures.course in
    (k.0, [], k.1, k.2, Grows-nil (g.E.Sink.took c.args.diag.now), (Ran.put_failed k.3, λ done. absurd (omega (arith, done))))
