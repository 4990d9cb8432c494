use Rattle.std.proofs.Common.{[]}
use Rattle.std.proofs.lemmas.Option.{MatchOption-at_none, MatchOption-at_some}
use Rattle.hp_io.proofs.ToldLaws.{Grows-nil}
use Rattle.hp_driver.specs.Command.{no_node_line}
use Rattle.hp_driver.specs.Follows.{NodeRun, OrderedRun}
use Rattle.hp_driver.specs.Status.{code_of}
use Rattle.hp_driver.proofs.ChoosingLaws.{its_machine, run_failed, run_memory, run_no_node, ordered_ran}
use Rattle.hp_driver.proofs.OutcomeLaws.{told_or_not}
use Rattle.hp_driver.proofs.RunnableLaws.{ends_map, has_chosen}
use Rattle.hp_driver.proofs.runnable.choosing_runnable.Goals as goal

pub returns-in_default-clause-told : goal.returns-in_default-clause-told
returns-in_default-clause-told g c =
    let name = c.args.node.now in
    let ordered = c.args.ordered.now in
    told_or_not (OrderedRun name ordered []) (run_failed name ordered []) (run_memory name ordered) (g.E.Sink.took c.args.diag.now) (g.E.Sink.took c.report_no_node.new.diag) (no_node_line name) 1 (code_of c.report_no_node.result)
    c.report_no_node.ensures.reports (run_no_node name ordered (MatchOption-at_none _ _ c.in_default.is c.node_named.ensures))

pub chosen_runnable-requires : goal.chosen_runnable-requires
chosen_runnable-requires g c =
    let node = c.in-Some.found in
    (its_machine c.nodes_have_their_machines.ensures c.args.ordered.now c.in-Ok.machines c.in-Ok.ensures c.args.node.now node.now (MatchOption-at_some _ _ node c.in-Some.is c.node_named.ensures)).0

pub returns-in-Ok-clause-told : goal.returns-in-Ok-clause-told
returns-in-Ok-clause-told g c =
    let name = c.args.node.now in
    let ordered = c.args.ordered.now in
    let node = c.in-Some.found in
    let o = c.in-Ok.machines in
    let told = c.chosen_runnable.ensures.told in (
      told.0,
      told.1,
      ends_map (NodeRun o node.now name []) (OrderedRun name ordered [])
          (λ line status. ordered_ran name ordered c.machines_do_what_programs_say.ensures o c.in-Ok.ensures node.now (MatchOption-at_some _ _ node c.in-Some.is c.node_named.ensures) [] line status) c.chosen_runnable.result told.0 told.2,
    )

pub returns-in-Ok-clause-chosen : goal.returns-in-Ok-clause-chosen
returns-in-Ok-clause-chosen g c =
    let node = c.in-Some.found in
    has_chosen c.args.ordered.now c.args.node.now node.now (MatchOption-at_some _ _ node c.in-Some.is c.node_named.ensures) c.in-Ok.machines c.chosen_runnable.result c.chosen_runnable.ensures.machines c.chosen_runnable.ensures.chosen

pub returns-in-Err-clause-told : goal.returns-in-Err-clause-told
returns-in-Err-clause-told g c = ([], Grows-nil (g.E.Sink.took c.args.diag.now), run_memory c.args.node.now c.args.ordered.now)
