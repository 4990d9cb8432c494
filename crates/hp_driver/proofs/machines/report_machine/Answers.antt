use Rattle.std.proofs.Common.{[], sym, subst}
use Rattle.hp_io.proofs.ToldLaws.{Grows-nil}
use Rattle.hp_driver.specs.Command.{no_node_line}
use Rattle.hp_driver.specs.Diagnostics.{executor_line}
use Rattle.hp_driver.specs.Follows.{RefusedMachine}
use Rattle.hp_driver.proofs.MachineLaws.{machine_told, machine_no_memory, no_machine, too_large}
use Rattle.hp_driver.specs.Status.{code_of}
use Rattle.hp_driver.proofs.machines.report_machine.Goals as goal

pub returns-in-NoNode-clause-told : goal.returns-in-NoNode-clause-told
returns-in-NoNode-clause-told g c =
    let node = c.args.node.now in
    machine_told node c.args.error (g.E.Sink.took c.args.diag.now) (g.E.Sink.took c.report_no_node.new.diag) (code_of c.report_no_node.result) (no_node_line node) 1 c.report_no_node.ensures.reports
    (subst (λ e. RefusedMachine node e (no_node_line node) 1) (sym c.in-NoNode.is) (no_machine node))

pub returns-in-Limit-clause-told : goal.returns-in-Limit-clause-told
returns-in-Limit-clause-told g c =
    let node = c.args.node.now in
    let line = executor_line c.in-Limit.limit in
    machine_told node c.args.error (g.E.Sink.took c.args.diag.now) (g.E.Sink.took c.report_large.new.diag) (code_of c.report_large.result) line 1 c.report_large.ensures.reports
    (subst (λ e. RefusedMachine node e line 1) (sym c.in-Limit.is) (too_large node c.in-Limit.limit))

pub returns-in-OutOfMemory-clause-told : goal.returns-in-OutOfMemory-clause-told
returns-in-OutOfMemory-clause-told g c = ([], Grows-nil (g.E.Sink.took c.args.diag.now), machine_no_memory c.args.node.now c.args.error)
