use Rattle.std.proofs.Common.{[]}
use Rattle.hp_cause.specs.Answers.{lists}
use Rattle.hp_driver.specs.Follows.{DecidedOutcome, ProgramOutcome}
use Rattle.hp_driver.specs.Status.{code_of}
use Rattle.hp_driver.specs.declared.words.Task.TheVariants.{Run}
use Rattle.hp_driver.proofs.OutcomeLaws.{refusal_of_program, arranged_outcome}
use Rattle.hp_driver.proofs.RunnableLaws.{all_arranged, ends_map}
use Rattle.hp_driver.proofs.runnable.program_runnable.Goals as goal

pub returns-in-Ok-clause-are : goal.returns-in-Ok-clause-are
returns-in-Ok-clause-are g c =
    let ordered = c.in-Ok.ordered in
    all_arranged c.args.program.now ordered.program (lists ordered.ranks.items) c.args.node.now c.in-Ok.ensures.arranged c.decided_runnable.result c.decided_runnable.ensures.are

pub returns-in-Ok-clause-told : goal.returns-in-Ok-clause-told
returns-in-Ok-clause-told g c =
    let program = c.args.program.now in
    let ordered = c.in-Ok.ordered in
    let told = c.decided_runnable.ensures.told in (
      told.0,
      told.1,
      ends_map (DecidedOutcome (Run c.args.node) program ordered.program []) (ProgramOutcome (Run c.args.node) program [])
          (λ line status. arranged_outcome program ordered.program (lists ordered.ranks.items) c.in-Ok.ensures.arranged (Run c.args.node) [] line status) c.decided_runnable.result told.0 told.2,
    )

pub returns-in-Err-clause-told : goal.returns-in-Err-clause-told
returns-in-Err-clause-told g c =
    refusal_of_program (Run c.args.node) c.args.program.now c.in-Err.refusal (g.E.Sink.took c.args.diag.now) (g.E.Sink.took c.report_refusal.new.diag) (code_of c.report_refusal.result)
    c.in-Err.ensures.refused c.in-Err.ensures.accepted c.report_refusal.ensures.reports c.report_refusal.ensures.no_memory

pub decided_runnable-requires : goal.decided_runnable-requires
decided_runnable-requires g c = (c.requires.0, lists c.in-Ok.ordered.ranks.items, c.requires.1, c.in-Ok.ensures.arranged)
