-- What an error of a pass is told on as.
use Rattle.std.specs.Prelude.{◌≡◌}
use Rattle.hp_abstract.specs.declared.error.AbsErr.{AbsErr}
use Rattle.hp_abstract.specs.declared.error.AbsErr.TheVariants as abstract
use Rattle.hp_complete.specs.declared.error.FlattenErr.{FlattenErr}
use Rattle.hp_complete.specs.declared.error.FlattenErr.TheVariants as flatten
use Rattle.hp_form.specs.declared.error.FormErr.{FormErr}
use Rattle.hp_form.specs.declared.error.FormErr.TheVariants as form
use Rattle.hp_machines.specs.declared.error.MachineErr.{MachineErr}
use Rattle.hp_machines.specs.declared.error.MachineErr.TheVariants as machine
use Rattle.hp_watch.specs.declared.error.WatchErr.{WatchErr}
use Rattle.hp_watch.specs.declared.error.WatchErr.TheVariants as watch
use Rattle.hp_controlled.specs.declared.error.ControlledErr.{ControlledErr}
use Rattle.hp_controlled.specs.declared.error.ControlledErr.TheVariants.{NotBuilt, OutOfMemory}

abbrev pub IsOfAbstraction : AbsErr → ControlledErr → Type 0
IsOfAbstraction (abstract.Assume span) e = e ≡ NotBuilt
IsOfAbstraction (abstract.Limit limit) e = e ≡ NotBuilt
IsOfAbstraction abstract.NotBuilt e = e ≡ NotBuilt
IsOfAbstraction abstract.OutOfMemory e = e ≡ OutOfMemory

abbrev pub IsOfFlatten : FlattenErr → ControlledErr → Type 0
IsOfFlatten flatten.Cycle e = e ≡ NotBuilt
IsOfFlatten flatten.OutOfMemory e = e ≡ OutOfMemory

abbrev pub IsOfForm : FormErr → ControlledErr → Type 0
IsOfForm form.NoForm e = e ≡ NotBuilt
IsOfForm form.OutOfMemory e = e ≡ OutOfMemory

abbrev pub IsOfMachine : MachineErr → ControlledErr → Type 0
IsOfMachine machine.NotBuilt e = e ≡ NotBuilt
IsOfMachine machine.OutOfMemory e = e ≡ OutOfMemory

abbrev pub IsOfWatch : WatchErr → ControlledErr → Type 0
IsOfWatch watch.Misfit e = e ≡ NotBuilt
IsOfWatch watch.OutOfMemory e = e ≡ OutOfMemory
