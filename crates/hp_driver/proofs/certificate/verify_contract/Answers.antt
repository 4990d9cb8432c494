use Rattle.std.proofs.Common.{[], inl, inr, refl}
use Rattle.hp_io.proofs.ToldLaws.{Grows-nil}
use Rattle.hp_driver.proofs.GameLaws.{contract_is_built}
use Rattle.hp_driver.proofs.CertLaws.{of_machine, verify_refused}
use Rattle.hp_driver.proofs.RanLaws.{heard_nothing}
use Rattle.hp_driver.specs.Status.{code_of}
use Rattle.hp_driver.proofs.certificate.verify_contract.Goals as goal

pub returns-in-Ok-clause-outcome : goal.returns-in-Ok-clause-outcome
returns-in-Ok-clause-outcome g c =
    let ran = c.verify_file.ensures.outcome in (
      ran.0,
      ran.1,
      ran.2,
      ran.3,
      ran.4,
      of_machine (g.F.Folder.files c.args.files.now) c.args.cert.now c.in-Ok.m c.args.ordered.now c.args.node.now c.in-Ok.ensures.machine ran.0 ran.1 (code_of c.verify_file.result) ran.5,
    )

pub returns-in-Err-clause-outcome : goal.returns-in-Err-clause-outcome
returns-in-Err-clause-outcome g c =
    let told = verify_refused (g.F.Folder.files c.args.files.now) c.outcomes_are_so.ensures c.args.ordered.now c.args.node.now c.args.cert.now c.in-Err.error
    (g.E.Sink.took c.args.diag.now) (g.E.Sink.took c.report_contract.new.diag) (code_of c.report_contract.result) c.in-Err.ensures.refused c.report_contract.ensures.reports c.report_contract.ensures.no_memory in
    ([], told.0, Grows-nil (g.C.Console.events c.args.console.now), heard_nothing (g.C.Console.left c.args.console.now), told.1, told.2)

pub report_contract-requires : goal.report_contract-requires
report_contract-requires g c = contract_is_built c.outcomes_are_so.ensures c.args.ordered.now c.args.node.now c.requires.1 c.in-Err.error c.in-Err.ensures.refused

pub returns-in-Ok-clause-machine : goal.returns-in-Ok-clause-machine
returns-in-Ok-clause-machine g c = inr (record { machine = c.in-Ok.m; is_machine = c.in-Ok.ensures.machine })

pub returns-in-Err-clause-machine : goal.returns-in-Err-clause-machine
returns-in-Err-clause-machine g c = inl refl
