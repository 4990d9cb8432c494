-- What the code of a sweep finds on the way, and why it stops.
-- Source: own.
use Rattle.std.specs.Prelude.{⊤, ℕ}
use Rattle.hp_exec.specs.Answers.{IsPassed}
use Rattle.hp_obc.specs.Machines.{Obc}
use Rattle.hp_driver.specs.Compiled.{HasCircuit, IsCompiled, IsNotCompiled}
use Rattle.hp_driver.specs.Sweeping.{tasks_name, tasks_text}
use Rattle.hp_driver.specs.declared.sweep.Stop.{Stop}
use Rattle.hp_driver.specs.declared.sweep.Stop.TheVariants as stop

-- why the machine of the tasks, which is there, is not run
abbrev pub StopsAt : Obc → Stop → Type 0
StopsAt o (stop.TooLarge limit) = IsPassed o tasks_name limit
StopsAt o stop.OutOfMemory = ⊤
StopsAt o (stop.NotCompiled cause) = ⊥

-- why a sweep stops
abbrev pub Stops : ℕ → Stop → Type 0
Stops tasks (stop.NotCompiled cause) = IsNotCompiled (tasks_text tasks) cause × HasCircuit cause
Stops tasks (stop.TooLarge limit) = (o : Obc) × IsCompiled (tasks_text tasks) o × IsPassed o tasks_name limit
Stops tasks stop.OutOfMemory = ⊤
