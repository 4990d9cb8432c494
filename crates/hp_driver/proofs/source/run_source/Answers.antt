use Rattle.std.proofs.Common.{[], sym, subst}
use Rattle.hp_io.proofs.ToldLaws.{Grows-nil}
use Rattle.hp_driver.specs.Diagnostics.{refusal_line}
use Rattle.hp_driver.specs.Follows.{OutcomeOf}
use Rattle.hp_driver.specs.Leaving.{LeavesBy}
use Rattle.hp_driver.proofs.MachineLaws.{not_done_or_not, nothing_written, run_leaves, tell_leaves, check_leaves}
use Rattle.hp_driver.proofs.RanLaws.{heard_nothing}
use Rattle.hp_driver.proofs.OutcomeLaws.{refusal_told}
use Rattle.hp_driver.specs.Status.{code_of}
use Rattle.hp_driver.proofs.source.run_source.Goals as goal

pub returns-in-Err-clause-outcome : goal.returns-in-Err-clause-outcome
returns-in-Err-clause-outcome g c =
    let told = refusal_told c.args.task c.args.text.now c.in-Err.refusal (g.E.Sink.took c.args.diag.now) (g.E.Sink.took c.report_refusal.new.diag) (code_of c.report_refusal.result)
    c.in-Err.ensures.refused c.in-Err.ensures.given c.report_refusal.ensures.reports c.report_refusal.ensures.no_memory in
    ([], told.0, Grows-nil (g.C.Console.events c.args.console.now), heard_nothing (g.C.Console.left c.args.console.now), told.1, told.2)

pub returns-in-Err-clause-leaves : goal.returns-in-Err-clause-leaves
returns-in-Err-clause-leaves g c = λ words file w held.
    nothing_written words (g.F.Folder.files c.args.files.now) (code_of c.report_refusal.result)
    (not_done_or_not (g.E.Sink.took c.args.diag.now) (g.E.Sink.took c.report_refusal.new.diag) (refusal_line c.in-Err.refusal) (code_of c.report_refusal.result) c.report_refusal.ensures.reports)

pub returns-in-Run-clause-outcome : goal.returns-in-Run-clause-outcome
returns-in-Run-clause-outcome g c =
    let ran = c.run_program.ensures.outcome in
    let text = c.args.text.now in (
      ran.0,
      ran.1,
      ran.2,
      ran.3,
      ran.4,
      subst (λ task. OutcomeOf task text ran.0 ran.1 (code_of c.run_program.result)) (sym c.in-Run.is) (ran.5 text c.in-Ok.ensures.judged (λ other judged. sym (c.in-Ok.ensures.given other judged))),
    )

pub returns-in-Run-clause-leaves : goal.returns-in-Run-clause-leaves
returns-in-Run-clause-leaves g c =
    let files = g.F.Folder.files c.args.files.now in
    subst (λ task. LeavesBy task c.args.text.now files files (code_of c.run_program.result)) (sym c.in-Run.is) (λ words file w held. run_leaves words file c.in-Run.node.now files (code_of c.run_program.result) w)

pub returns-in-Tell-clause-outcome : goal.returns-in-Tell-clause-outcome
returns-in-Tell-clause-outcome g c =
    let ran = c.tell_program.ensures.outcome in
    let text = c.args.text.now in (
      ran.0,
      ran.1,
      ran.2,
      ran.3,
      ran.4,
      subst (λ task. OutcomeOf task text ran.0 ran.1 (code_of c.tell_program.result)) (sym c.in-Tell.is) (ran.5 text c.in-Ok.ensures.judged (λ other judged. sym (c.in-Ok.ensures.given other judged))),
    )

pub returns-in-Tell-clause-leaves : goal.returns-in-Tell-clause-leaves
returns-in-Tell-clause-leaves g c =
    let files = g.F.Folder.files c.args.files.now in
    subst (λ task. LeavesBy task c.args.text.now files files (code_of c.tell_program.result)) (sym c.in-Tell.is) (λ words file w held. tell_leaves words file c.in-Tell.node.now files (code_of c.tell_program.result) w)

pub returns-in-Check-clause-outcome : goal.returns-in-Check-clause-outcome
returns-in-Check-clause-outcome g c =
    let ran = c.check_program.ensures.outcome in
    let text = c.args.text.now in (
      ran.0,
      ran.1,
      ran.2,
      ran.3,
      ran.4,
      subst (λ task. OutcomeOf task text ran.0 ran.1 (code_of c.check_program.result)) (sym c.in-Check.is) (ran.5 text c.in-Ok.ensures.judged (λ other judged. sym (c.in-Ok.ensures.given other judged))),
    )

pub returns-in-Check-clause-leaves : goal.returns-in-Check-clause-leaves
returns-in-Check-clause-leaves g c =
    let files = g.F.Folder.files c.args.files.now in
    subst (λ task. LeavesBy task c.args.text.now files files (code_of c.check_program.result)) (sym c.in-Check.is) (λ words file w held. check_leaves words file c.in-Check.print files (code_of c.check_program.result) w)

pub returns-clause-outcome : goal.returns-clause-outcome
returns-clause-outcome g c =
    let done = c.write_program.ensures.outcome in
    let text = c.args.text.now in (
      [],
      done.0,
      Grows-nil (g.C.Console.events c.args.console.now),
      heard_nothing (g.C.Console.left c.args.console.now),
      done.1,
      subst (λ task. OutcomeOf task text [] done.0 (code_of c.write_program.result)) (sym c.in-Compile.is) (done.2 text c.in-Ok.ensures.judged (λ other judged. sym (c.in-Ok.ensures.given other judged))),
    )

pub returns-clause-leaves : goal.returns-clause-leaves
returns-clause-leaves g c =
    let text = c.args.text.now in
    subst (λ task. LeavesBy task text (g.F.Folder.files c.args.files.now) (g.F.Folder.files c.write_program.new.files) (code_of c.write_program.result)) (sym c.in-Compile.is)
    (λ words file w held. c.write_program.ensures.leaves words file text c.in-Ok.ensures.judged (λ other judged. sym (c.in-Ok.ensures.given other judged)) held w)
