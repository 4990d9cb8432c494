-- The number of each status of a call, which the process ends with.
-- Source: own
use Rattle.std.specs.Prelude.{ℕ}
use Rattle.hp_driver.specs.declared.status.Status.{Status}
use Rattle.hp_driver.specs.declared.status.Status.TheVariants.{Done, Refused, NoCommand, BadLine, ReadFailed, WriteFailed, NoMemory, NoCertificate, NoMachines, NoCheckpoint}

abbrev pub code_of : Status → ℕ
code_of Done = 0
code_of Refused = 1
code_of NoCommand = 2
code_of BadLine = 3
code_of ReadFailed = 4
code_of WriteFailed = 5
code_of NoMemory = 6
code_of NoCertificate = 7
code_of NoMachines = 8
code_of NoCheckpoint = 9
