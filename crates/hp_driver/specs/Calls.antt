-- What a call of the tool does.
-- Source: own
use Rattle.std.specs.Prelude.{ℕ, List, Option}
use Rattle.hp_io.specs.Faults.{Faults}
use Rattle.hp_io.specs.Files.{Files}
use Rattle.hp_io.specs.Reads.{Reads, Reading}
use Rattle.hp_io.specs.Told.{Grows}
use Rattle.hp_io.specs.declared.console.Event.{Event}
use Rattle.hp_driver.specs.Faults.{InputFaults, OutputFaults}
use Rattle.hp_driver.specs.Happened.{Happened}
use Rattle.hp_driver.specs.Leaves.{Leaves, ReadRose, WriteRose}
use Rattle.hp_driver.specs.Readings.{AreReadings}
use Rattle.hp_driver.specs.Segments.{CallOutcome}

-- What a folder, a console and diagnostics tell at a moment, and the faults of reads, writes, takes and puts of them. The puts of diagnostics are `tells`.
pub record Moment : Type 0 where
  pub files : Option Files
  pub reads : Reads
  pub writes : List ℕ → Faults
  pub events : Option (List Event)
  pub left : Option (List ℕ)
  pub takes : Faults
  pub puts : Faults
  pub took : Option (List ℕ)
  pub tells : Faults

abbrev pub moment : Option Files → Reads → (List ℕ → Faults) → Option (List Event) → Option (List ℕ) → Faults → Faults → Option (List ℕ) → Faults → Moment
moment files reads writes events left takes puts took tells =
    record { files = files; reads = reads; writes = writes; events = events; left = left; takes = takes; puts = puts; took = took; tells = tells }

-- A call with these words from one moment to another, and its status: what happened, what became of the files, what was read, and which call of the outside failed.
pub record IsCall (words : List (List ℕ)) (before after : Moment) (status : ℕ) : Type 0 where
  pub outcome : Happened before.events after.events before.left after.left before.took after.took (λ log line. CallOutcome words before.files after.files log line status)
  pub leaves : Leaves words before.files after.files status
  pub readings : (gave : List Reading) × Grows before.reads.gave after.reads.gave gave × AreReadings words before.files gave
  pub reads : InputFaults (ReadRose words before.reads.faults after.reads.faults) status before.reads.faults after.reads.faults before.takes after.takes
  pub writes : OutputFaults (WriteRose words before.writes after.writes) status before.writes after.writes before.puts after.puts before.tells after.tells
