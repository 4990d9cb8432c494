-- What a sweep says, and why it says nothing.
-- Source: own.
use Rattle.std.specs.Prelude.{◌≡◌, ℕ, ◌*◌, List}
use Rattle.hp_base.specs.declared.limit.Limit.{Limit}
use Rattle.hp_compile.specs.declared.refusal.Refusal.{Refusal}
use Rattle.hp_exec.specs.Answers.{IsPassed}
use Rattle.hp_obc.specs.Machines.{Obc}
use Rattle.hp_verdicts.specs.declared.error.ContractErr.{ContractErr}
use Rattle.hp_driver.specs.Compiled.{IsCompiled, IsNotCompiled}
use Rattle.hp_driver.specs.Diagnostics.{contract_line, executor_line, refusal_line}
use Rattle.hp_driver.specs.Sweeping.{HasTasks, sweep_text, tasks_name, tasks_text}
use Rattle.hp_driver.specs.declared.compile_error.CompileErr.TheVariants.{Refused, Contract}

-- The text is the summary of a run of the tasks: their program is compiled to machines, among which is that of the tasks, with two inputs and two outputs a task, and these are the counts of its run.
pub record IsSwept (tasks instants : ℕ) (text : List ℕ) : Type 0 where
  pub machines : Obc
  pub compiled : IsCompiled (tasks_text tasks) machines
  pub has : HasTasks (2 * tasks) machines
  pub spelled : text ≡ sweep_text machines tasks instants

-- Nothing is said of so many tasks, and this line tells why: their program is refused, or its contract is, or their machine passes a limit. No sweep has shown any of them.
pub data IsNotSwept (tasks : ℕ) : List ℕ → Type 0 where
  refused : (cause : Refusal) → IsNotCompiled (tasks_text tasks) (Refused cause) → IsNotSwept tasks (refusal_line cause)
  contract_refused : (cause : ContractErr) → IsNotCompiled (tasks_text tasks) (Contract cause) → IsNotSwept tasks (contract_line cause)
  too_large : {o : Obc} (limit : Limit) → IsCompiled (tasks_text tasks) o → IsPassed o tasks_name limit → IsNotSwept tasks (executor_line limit)
