use Rattle.std.proofs.Common.{[]}
use Rattle.hp_driver.specs.Follows.{DecidedOutcome, OrderedRun}
use Rattle.hp_driver.specs.Status.{code_of}
use Rattle.hp_driver.specs.declared.words.Task.TheVariants.{Run}
use Rattle.hp_driver.proofs.ContractLaws.{contract_told, ordered_run}
use Rattle.hp_driver.proofs.GameLaws.{contracts_are_built}
use Rattle.hp_driver.proofs.RunnableLaws.{all_ordered, ends_map}
use Rattle.hp_driver.proofs.runnable.decided_runnable.Goals as goal

pub report_contract-requires : goal.report_contract-requires
report_contract-requires g c = contracts_are_built c.outcomes_are_so.ensures c.args.program.now c.args.ordered.now c.requires c.in-Err.error c.in-Err.ensures.refused

pub returns-in-Err-clause-told : goal.returns-in-Err-clause-told
returns-in-Err-clause-told g c =
    contract_told (Run c.args.node) c.args.program.now c.args.ordered.now c.outcomes_are_so.ensures c.in-Err.error c.in-Err.ensures.plain c.in-Err.ensures.refused (g.E.Sink.took c.args.diag.now) (g.E.Sink.took c.report_contract.new.diag)
    (code_of c.report_contract.result) c.report_contract.ensures.reports c.report_contract.ensures.no_memory

pub returns-clause-are : goal.returns-clause-are
returns-clause-are g c =
    all_ordered c.outcomes_are_so.ensures c.machines_do_what_programs_say.ensures c.args.program.now c.args.ordered.now c.in_default.ensures.kept c.args.node.now c.choosing_runnable.result c.choosing_runnable.ensures.machines
    c.choosing_runnable.ensures.chosen

pub returns-clause-told : goal.returns-clause-told
returns-clause-told g c =
    let program = c.args.program.now in
    let ordered = c.args.ordered.now in
    let told = c.choosing_runnable.ensures.told in (
      told.0,
      told.1,
      ends_map (OrderedRun c.args.node.now ordered []) (DecidedOutcome (Run c.args.node) program ordered [])
          (λ line status. ordered_run c.outcomes_are_so.ensures program ordered c.in_default.ensures.kept c.args.node [] line status) c.choosing_runnable.result told.0 told.2,
    )

pub choosing_runnable-requires-clause-arranged : goal.choosing_runnable-requires-clause-arranged
choosing_runnable-requires-clause-arranged g c = (c.args.program.now, c.requires)

pub choosing_runnable-requires-clause-kept : goal.choosing_runnable-requires-clause-kept
choosing_runnable-requires-clause-kept g c = c.in_default.ensures.kept
