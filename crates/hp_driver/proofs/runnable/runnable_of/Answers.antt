use Rattle.std.proofs.Common.{[], sym}
use Rattle.hp_driver.specs.Follows.{OutcomeOf, ProgramOutcome}
use Rattle.hp_driver.specs.Status.{code_of}
use Rattle.hp_driver.specs.declared.words.Task.TheVariants.{Run}
use Rattle.hp_driver.proofs.OutcomeLaws.{refusal_told}
use Rattle.hp_driver.proofs.RunnableLaws.{all_judged, ends_map}
use Rattle.hp_driver.proofs.runnable.runnable_of.Goals as goal

pub returns-in-Ok-clause-are : goal.returns-in-Ok-clause-are
returns-in-Ok-clause-are g c =
    all_judged c.args.text.now c.in-Ok.program c.args.node.now c.in-Ok.ensures.judged (λ other judged. sym (c.in-Ok.ensures.given other judged)) c.program_runnable.result c.program_runnable.ensures.are

pub returns-in-Ok-clause-told : goal.returns-in-Ok-clause-told
returns-in-Ok-clause-told g c =
    let told = c.program_runnable.ensures.told in (
      told.0,
      told.1,
      ends_map (ProgramOutcome (Run c.args.node) c.in-Ok.program []) (OutcomeOf (Run c.args.node) c.args.text.now [])
          (λ line status f. f c.args.text.now c.in-Ok.ensures.judged (λ other judged. sym (c.in-Ok.ensures.given other judged))) c.program_runnable.result told.0 told.2,
    )

pub returns-in-Err-clause-told : goal.returns-in-Err-clause-told
returns-in-Err-clause-told g c =
    refusal_told (Run c.args.node) c.args.text.now c.in-Err.refusal (g.E.Sink.took c.args.diag.now) (g.E.Sink.took c.report_refusal.new.diag) (code_of c.report_refusal.result)
    c.in-Err.ensures.refused c.in-Err.ensures.given c.report_refusal.ensures.reports c.report_refusal.ensures.no_memory
