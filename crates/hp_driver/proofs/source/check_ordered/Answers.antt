use Rattle.std.proofs.Common.{◌≡◌, [], rules, subst}
use Rattle.hp_io.specs.Events.{put_events}
use Rattle.hp_io.proofs.ToldLaws.{Grows-nil}
use Rattle.hp_driver.specs.Command.{accepted_text}
use Rattle.hp_driver.specs.Follows.{Accepts}
use Rattle.hp_driver.specs.declared.words.Task.TheVariants.{Check}
use Rattle.hp_driver.proofs.ContractLaws.{contract_told, accepted_of, decided_memory}
use Rattle.hp_driver.proofs.OutcomeLaws.{nothing-heard}
use Rattle.hp_driver.proofs.GameLaws.{contracts_are_built}
use Rattle.hp_driver.proofs.RanLaws.{heard_nothing}
use Rattle.hp_driver.specs.Status.{code_of}
use Rattle.hp_driver.proofs.source.check_ordered.Goals as goal

pub returns-in-Err-clause-outcome : goal.returns-in-Err-clause-outcome
returns-in-Err-clause-outcome g c =
    let told = contract_told (Check c.args.is_printed) c.args.program.now c.args.ordered.now c.outcomes_are_so.ensures c.in-Err.error c.in-Err.ensures.plain c.in-Err.ensures.refused (g.E.Sink.took c.args.diag.now) (g.E.Sink.took c.report_contract.new.diag)
    (code_of c.report_contract.result) c.report_contract.ensures.reports c.report_contract.ensures.no_memory in
    ([], told.0, Grows-nil (g.C.Console.events c.args.console.now), heard_nothing (g.C.Console.left c.args.console.now), told.1, told.2)

pub returns-in-Ok-clause-outcome : goal.returns-in-Ok-clause-outcome
returns-in-Ok-clause-outcome g c =
    let program = c.args.program.now in
    let said = c.say_all.ensures.accepts in
    let text : c.as_slice.result.now ≡ accepted_text c.args.is_printed program = search rules in (
      put_events said.0,
      [],
      said.1,
      nothing-heard (g.C.Console.left c.args.console.now) (g.C.Console.left c.say_all.new.console) said.0 c.say_all.ensures.left,
      Grows-nil (g.E.Sink.took c.args.diag.now),
      accepted_of c.outcomes_are_so.ensures program c.args.ordered.now c.in_default.ensures.kept c.args.is_printed said.0 (code_of c.say_all.result) (subst (λ z. Accepts z said.0 (code_of c.say_all.result)) text said.2),
    )

pub returns-in-Err-acceptance-clause-outcome : goal.returns-in-Err-acceptance-clause-outcome
returns-in-Err-acceptance-clause-outcome g c = (
  [],
  [],
  Grows-nil (g.C.Console.events c.args.console.now),
  heard_nothing (g.C.Console.left c.args.console.now),
  Grows-nil (g.E.Sink.took c.args.diag.now),
  decided_memory (Check c.args.is_printed) c.args.program.now c.args.ordered.now,
)

pub report_contract-requires : goal.report_contract-requires
report_contract-requires g c = contracts_are_built c.outcomes_are_so.ensures c.args.program.now c.args.ordered.now c.requires c.in-Err.error c.in-Err.ensures.refused
