use Rattle.std.proofs.lemmas.Result.{MatchResult-weaker}
use Rattle.hp_driver.specs.Stopping.{Stops}
use Rattle.hp_driver.proofs.HandedLaws.{handed_match}
use Rattle.hp_driver.proofs.SweepLaws.{stops_so, swept_by}
use Rattle.hp_driver.proofs.TaskPrograms.{has_tasks}
use Rattle.hp_driver.proofs.sweep.summary_of.Goals as goal

pub returns-in_err-machines : goal.returns-in_err-machines
returns-in_err-machines c = handed_match _ (Stops c.args.sweep.tasks) c.from_residual.result c.in_err-machines.field-0.0 c.from_residual.ensures.1 c.in_err-machines.ensures

pub summary_by-requires-clause-has : goal.summary_by-requires-clause-has
summary_by-requires-clause-has c = has_tasks c.nodes_have_their_machines.ensures c.args.sweep.tasks c.requires.some c.requires.few c.in_ok-machines.machines c.in_ok-machines.ensures

pub returns : goal.returns
returns c =
    let tasks = c.args.sweep.tasks in
    let instants = c.args.sweep.instants in
    let o = c.in_ok-machines.machines in
    let compiled = c.in_ok-machines.ensures in
    let has = has_tasks c.nodes_have_their_machines.ensures tasks c.requires.some c.requires.few o compiled in
    MatchResult-weaker c.summary_by.result c.summary_by.ensures (λ text h. swept_by tasks instants o compiled has text.items h) (λ why h. stops_so tasks instants o compiled why h)
