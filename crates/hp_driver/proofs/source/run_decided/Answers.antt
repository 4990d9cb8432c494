use Rattle.std.proofs.Common.{[]}
use Rattle.hp_io.proofs.ToldLaws.{Grows-nil}
use Rattle.hp_driver.specs.declared.words.Task.TheVariants.{Run}
use Rattle.hp_driver.proofs.ContractLaws.{contract_told, ordered_run}
use Rattle.hp_driver.proofs.GameLaws.{contracts_are_built}
use Rattle.hp_driver.proofs.RanLaws.{heard_nothing}
use Rattle.hp_driver.specs.Status.{code_of}
use Rattle.hp_driver.proofs.source.run_decided.Goals as goal

pub returns-in-Err-clause-outcome : goal.returns-in-Err-clause-outcome
returns-in-Err-clause-outcome g c =
    let told = contract_told (Run c.args.node) c.args.program.now c.args.ordered.now c.outcomes_are_so.ensures c.in-Err.error c.in-Err.ensures.plain c.in-Err.ensures.refused (g.E.Sink.took c.args.diag.now) (g.E.Sink.took c.report_contract.new.diag)
    (code_of c.report_contract.result) c.report_contract.ensures.reports c.report_contract.ensures.no_memory in
    ([], told.0, Grows-nil (g.C.Console.events c.args.console.now), heard_nothing (g.C.Console.left c.args.console.now), told.1, told.2)

pub returns-clause-outcome : goal.returns-clause-outcome
returns-clause-outcome g c =
    let ran = c.run_choosing.ensures.outcome in
    (ran.0, ran.1, ran.2, ran.3, ran.4, ordered_run c.outcomes_are_so.ensures c.args.program.now c.args.ordered.now c.in_default.ensures.kept c.args.node ran.0 ran.1 (code_of c.run_choosing.result) ran.5)

pub report_contract-requires : goal.report_contract-requires
report_contract-requires g c = contracts_are_built c.outcomes_are_so.ensures c.args.program.now c.args.ordered.now c.requires c.in-Err.error c.in-Err.ensures.refused

pub run_choosing-requires-clause-arranged : goal.run_choosing-requires-clause-arranged
run_choosing-requires-clause-arranged g c = (c.args.program.now, c.requires)

pub run_choosing-requires-clause-kept : goal.run_choosing-requires-clause-kept
run_choosing-requires-clause-kept g c = c.in_default.ensures.kept
