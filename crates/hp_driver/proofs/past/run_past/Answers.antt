use Rattle.hp_driver.specs.Status.{code_of}
use Rattle.hp_driver.specs.Diagnostics.{refusal_line}
use Rattle.hp_driver.proofs.MachineLaws.{nothing_written, not_done_or_not}
use Rattle.hp_driver.proofs.PastLaws.{not_unfolded}
use Rattle.hp_driver.proofs.past.run_past.Goals as goal

pub returns-in-Ok-clause-outcome : goal.returns-in-Ok-clause-outcome
returns-in-Ok-clause-outcome g c = let done = c.write_unfolded.ensures.outcome in (done.0, done.1, done.2 c.args.text.now c.in-Ok.ensures.program)

pub returns-in-Ok-clause-leaves : goal.returns-in-Ok-clause-leaves
returns-in-Ok-clause-leaves g c = c.write_unfolded.ensures.leaves c.args.text.now c.in-Ok.ensures.program

pub returns-in-Err-clause-outcome : goal.returns-in-Err-clause-outcome
returns-in-Err-clause-outcome g c =
    not_unfolded c.args.out.now c.args.text.now c.in-Err.refusal (g.E.Sink.took c.args.diag.now) (g.E.Sink.took c.report_refusal.new.diag) (code_of c.report_refusal.result)
    c.in-Err.ensures.refused c.in-Err.ensures.given c.report_refusal.ensures.reports c.report_refusal.ensures.no_memory

pub returns-in-Err-clause-leaves : goal.returns-in-Err-clause-leaves
returns-in-Err-clause-leaves g c = λ words file w gives.
    nothing_written words (g.F.Folder.files c.args.files.now) (code_of c.report_refusal.result)
    (not_done_or_not (g.E.Sink.took c.args.diag.now) (g.E.Sink.took c.report_refusal.new.diag) (refusal_line c.in-Err.refusal) (code_of c.report_refusal.result) c.report_refusal.ensures.reports)
