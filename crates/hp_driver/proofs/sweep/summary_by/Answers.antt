use Rattle.std.proofs.Common.{◌∙◌, List, ℕ, ap, drop, take}
use Rattle.std.specs.Prelude.{◌*◌}
use Rattle.hp_obc.specs.Steps.{machine_behaviour}
use Rattle.hp_driver.specs.Command.{summary_text}
use Rattle.hp_driver.specs.Stopping.{StopsAt}
use Rattle.hp_driver.specs.Sweeping.{tasks_name}
use Rattle.hp_driver.specs.declared.sweep.Stop.TheVariants.{OutOfMemory}
use Rattle.hp_driver.proofs.HandedLaws.{handed_match}
use Rattle.hp_driver.proofs.SweepLaws.{is_summary, is_there, its_counts}
use Rattle.hp_driver.proofs.sweep.summary_by.Goals as goal

pub exec_of_tasks-requires : goal.exec_of_tasks-requires
exec_of_tasks-requires c = is_there (2 * c.args.sweep.tasks) c.args.machines.now c.requires.has

pub returns-in_err-exec : goal.returns-in_err-exec
returns-in_err-exec c = handed_match _ (StopsAt c.args.machines.now) c.from_residual.result c.in_err-exec.field-0.0 c.from_residual.ensures.1 c.in_err-exec.ensures

pub returns-in_err-counts : goal.returns-in_err-counts
returns-in_err-counts c = handed_match _ (StopsAt c.args.machines.now) c.from_residual-in_err-counts.result OutOfMemory c.from_residual-in_err-counts.ensures.1 tt

pub returns-in_err-text : goal.returns-in_err-text
returns-in_err-text c = handed_match _ (StopsAt c.args.machines.now) c.from_residual-in_err-text.result OutOfMemory c.from_residual-in_err-text.ensures.1 tt

pub returns : goal.returns
returns c =
    let o = c.args.machines.now in
    let tasks = c.args.sweep.tasks in
    let instants = c.args.sweep.instants in
    let is = c.in_ok-exec.ensures in
    let counts = c.in_ok-counts.counts.items in
    let counted = its_counts o c.in_ok-exec.exec is (2 * tasks) c.requires.has instants counts (c.in_ok-counts.ensures (machine_behaviour o tasks_name) is.runs is.fresh) in
    let spelled = c.in_ok-text.ensures ∙ ap (λ (z : List ℕ). summary_text (take tasks z) (drop tasks z)) c.deref.ensures.value in
    is_summary o tasks instants c.in_ok-text.text.items counts spelled counted
