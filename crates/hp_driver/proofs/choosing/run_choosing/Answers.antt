use Rattle.std.proofs.Common.{[]}
use Rattle.std.proofs.lemmas.Option.{MatchOption-at_none, MatchOption-at_some}
use Rattle.hp_io.proofs.ToldLaws.{Grows-nil}
use Rattle.hp_driver.specs.Command.{no_node_line}
use Rattle.hp_driver.specs.Follows.{OrderedRun}
use Rattle.hp_driver.specs.Status.{code_of}
use Rattle.hp_driver.proofs.ChoosingLaws.{its_machine, run_failed, run_memory, run_no_node, ordered_ran}
use Rattle.hp_driver.proofs.OutcomeLaws.{told_or_not}
use Rattle.hp_driver.proofs.RanLaws.{heard_nothing}
use Rattle.hp_driver.proofs.choosing.run_choosing.Goals as goal

pub returns-in_default-clause-outcome : goal.returns-in_default-clause-outcome
returns-in_default-clause-outcome g c =
    let name = c.args.node.now in
    let ordered = c.args.ordered.now in
    let told = told_or_not (OrderedRun name ordered []) (run_failed name ordered []) (run_memory name ordered) (g.E.Sink.took c.args.diag.now) (g.E.Sink.took c.report_no_node.new.diag) (no_node_line name) 1 (code_of c.report_no_node.result)
    c.report_no_node.ensures.reports (run_no_node name ordered (MatchOption-at_none _ _ c.in_default.is c.node_named.ensures)) in
    ([], told.0, Grows-nil (g.C.Console.events c.args.console.now), heard_nothing (g.C.Console.left c.args.console.now), told.1, told.2)

pub run_node-requires-clause-form : goal.run_node-requires-clause-form
run_node-requires-clause-form g c = c.in-Ok.ensures.form

pub run_node-requires-clause-own : goal.run_node-requires-clause-own
run_node-requires-clause-own g c =
    let node = c.in-Some.found in
    (its_machine c.nodes_have_their_machines.ensures c.args.ordered.now c.in-Ok.machines c.in-Ok.ensures c.args.node.now node.now (MatchOption-at_some _ _ node c.in-Some.is c.node_named.ensures)).0

pub returns-in-Ok-clause-outcome : goal.returns-in-Ok-clause-outcome
returns-in-Ok-clause-outcome g c =
    let ran = c.run_node.ensures.outcome in
    let node = c.in-Some.found in (
      ran.0,
      ran.1,
      ran.2,
      ran.3,
      ran.4,
      ordered_ran c.args.node.now c.args.ordered.now c.machines_do_what_programs_say.ensures c.in-Ok.machines c.in-Ok.ensures node.now (MatchOption-at_some _ _ node c.in-Some.is c.node_named.ensures) ran.0 ran.1 (code_of c.run_node.result) ran.5,
    )

pub returns-in-Err-clause-outcome : goal.returns-in-Err-clause-outcome
returns-in-Err-clause-outcome g c = (
  [],
  [],
  Grows-nil (g.C.Console.events c.args.console.now),
  heard_nothing (g.C.Console.left c.args.console.now),
  Grows-nil (g.E.Sink.took c.args.diag.now),
  run_memory c.args.node.now c.args.ordered.now,
)
