use Rattle.std.proofs.Common.{[]}
use Rattle.hp_io.proofs.ToldLaws.{Grows-nil}
use Rattle.hp_cause.specs.Answers.{lists}
use Rattle.hp_driver.specs.declared.words.Task.TheVariants.{Run}
use Rattle.hp_driver.proofs.RanLaws.{heard_nothing}
use Rattle.hp_driver.proofs.OutcomeLaws.{refusal_of_program, arranged_outcome}
use Rattle.hp_driver.specs.Status.{code_of}
use Rattle.hp_driver.proofs.source.run_program.Goals as goal

pub returns-in-Ok-clause-outcome : goal.returns-in-Ok-clause-outcome
returns-in-Ok-clause-outcome g c =
    let ordered = c.in-Ok.ordered in
    let ran = c.run_decided.ensures.outcome in (
      ran.0,
      ran.1,
      ran.2,
      ran.3,
      ran.4,
      arranged_outcome c.args.program.now ordered.program (lists ordered.ranks.items) c.in-Ok.ensures.arranged (Run c.args.node) ran.0 ran.1 (code_of c.run_decided.result) ran.5,
    )

pub returns-in-Err-clause-outcome : goal.returns-in-Err-clause-outcome
returns-in-Err-clause-outcome g c =
    let told = refusal_of_program (Run c.args.node) c.args.program.now c.in-Err.refusal (g.E.Sink.took c.args.diag.now) (g.E.Sink.took c.report_refusal.new.diag) (code_of c.report_refusal.result)
    c.in-Err.ensures.refused c.in-Err.ensures.accepted c.report_refusal.ensures.reports c.report_refusal.ensures.no_memory in
    ([], told.0, Grows-nil (g.C.Console.events c.args.console.now), heard_nothing (g.C.Console.left c.args.console.now), told.1, told.2)

pub run_decided-requires : goal.run_decided-requires
run_decided-requires g c = (c.requires.0, lists c.in-Ok.ordered.ranks.items, c.requires.1, c.in-Ok.ensures.arranged)
