use Rattle.std.proofs.Common.{ℕ, List, ◌∙◌, subst}
use Rattle.hp_driver.specs.Compiled.{IsCompiled, IsNotCompiled}
use Rattle.hp_driver.specs.Stopping.{Stops}
use Rattle.hp_driver.specs.Sweeping.{tasks_text}
use Rattle.hp_driver.specs.declared.sweep.Stop.TheVariants.{NotCompiled, OutOfMemory}
use Rattle.hp_driver.proofs.HandedLaws.{handed_match}
use Rattle.hp_driver.proofs.SweepLaws.{stops_for}
use Rattle.hp_driver.proofs.sweep.machines_of_tasks.Goals as goal

pub returns-in_err-text : goal.returns-in_err-text
returns-in_err-text c = handed_match (IsCompiled (tasks_text c.args.tasks)) (Stops c.args.tasks) c.from_residual.result OutOfMemory c.from_residual.ensures.1 tt

pub returns-in_err-machines : goal.returns-in_err-machines
returns-in_err-machines c =
    let tasks = c.args.tasks in
    let cause = c.in_err-machines.field-0.0 in
    handed_match (IsCompiled (tasks_text tasks)) (Stops tasks) c.from_residual-in_err-machines.result (NotCompiled cause) c.from_residual-in_err-machines.ensures.1
    (stops_for tasks cause (subst (λ (t : List ℕ). IsNotCompiled t cause) (c.deref.ensures.value ∙ c.in_ok-text.ensures) c.in_err-machines.ensures.compiled) c.in_err-machines.ensures.circuits)

pub returns : goal.returns
returns c = subst (λ (t : List ℕ). IsCompiled t c.in_ok-machines.machines) (c.deref.ensures.value ∙ c.in_ok-text.ensures) c.in_ok-machines.ensures.compiled
