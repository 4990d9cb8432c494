-- What was read in a call, and that nothing fails over calm objects.
use Rattle.std.proofs.Common.{◌≡◌, ◌≢◌, ◌⊎◌, ◌∙◌, inl, inr, ℕ, List, [], ◌∷◌, sym, subst, true≢false}
use Rattle.std.specs.Prelude.{Option}
use Rattle.hp_base.specs.Limits.{most}
use Rattle.hp_io.specs.Faults.{Faults, Rose, IsCalm}
use Rattle.hp_io.specs.Files.{Files}
use Rattle.hp_io.specs.Reads.{Reading}
use Rattle.hp_io.specs.Told.{Grows}
use Rattle.hp_io.proofs.ToldLaws.{Grows-nil, Grows-trans}
use Rattle.hp_driver.specs.Command.{ReadsSource, IsOverContract}
use Rattle.hp_driver.specs.Commanded.{Spells, file_of, limit_of}
use Rattle.hp_driver.specs.Calls.{Moment, IsCall}
use Rattle.hp_driver.specs.Given.{Gives}
use Rattle.hp_driver.specs.GoodCalls.{AreCalm}
use Rattle.hp_driver.specs.Readings.{AreReadings, ReadsOn}
use Rattle.hp_driver.specs.declared.words.Command.{Command}
use Rattle.hp_driver.specs.declared.words.Command.TheVariants.{Past, Source, Exec, Prove, Verify}
use Rattle.hp_driver.proofs.OutcomeLaws.{over_source}

-- what a call read
abbrev pub HasRead : List (List ℕ) → Option Files → Option (List Reading) → Option (List Reading) → Type 0
HasRead words files before after = (gave : List Reading) × Grows before after gave × AreReadings words files gave

pub read_none : (words : List (List ℕ)) (files : Option Files) (before : Option (List Reading)) → HasRead words files before before
read_none words files before = ([], Grows-nil before, AreReadings.none)

pub read_nothing : (words : List (List ℕ)) (files : Option Files) (before after : Option (List Reading)) → after ≡ before → HasRead words files before after
read_nothing words files before after same = subst (HasRead words files before) (sym same) (read_none words files before)

-- what was read only where something is so
pub both_read : {S G M : Type 0} → S ⊎ G → S ⊎ M → S ⊎ (G × M)
both_read (inl same) found = inl same
both_read (inr grew) (inl same) = inl same
both_read (inr grew) (inr so) = inr (grew, so)

module _ (words : List (List ℕ)) (files : Option Files) (first before after : Option (List Reading)) where
  -- nothing was read behind the file
  alone : (gave : List Reading) → AreReadings words files gave → Grows first before gave → after ≡ before → HasRead words files first after
  alone gave are grew same = (gave, subst (λ told. Grows first told gave) (sym same) grew, are)

  -- the file was read, and what stands behind it
  pub read_on_by : (text : List ℕ) (command : Command) → Spells words command → Gives files (file_of command) text → Grows first before ((file_of command, most (limit_of command)) ∷ []) → ReadsOn command text before after → HasRead words files first after
  read_on_by text (Source file task) w gives grew on = alone _ (AreReadings.a_source (ReadsSource.of_program (over_source words file.now task w))) grew on
  read_on_by text (Past file out) w gives grew on = alone _ (AreReadings.a_tree w) grew on
  read_on_by text (Exec file node) w gives grew on = alone _ (AreReadings.machines w) grew on
  read_on_by text (Prove file node cert) w gives grew on = alone _ (AreReadings.a_source (ReadsSource.of_contract (IsOverContract.to_prove w))) grew on
  read_on_by text (Verify file node cert) w gives grew (inl same) = alone _ (AreReadings.a_source (ReadsSource.of_contract (IsOverContract.to_verify w))) grew same
  read_on_by text (Verify file node cert) w gives grew (inr more) = (_, Grows-trans first before after _ _ grew more.0, AreReadings.a_certificate w (more.1 files file.now gives))

pub read_on : (words : List (List ℕ)) (files : Option Files) (text : List ℕ) (command : Command) (first before after : Option (List Reading)) → Spells words command → Gives files (file_of command) text
    → Grows first before ((file_of command, most (limit_of command)) ∷ []) → ReadsOn command text before after → HasRead words files first after
read_on words files text command first before after w gives grew on = read_on_by words files first before after text command w gives grew on

-- ---- calm objects

-- a call that never fails did not fail
never : (before after : Faults) → IsCalm before → Rose before after → ⊥
never before after calm rose = true≢false (sym calm ∙ rose.may)

-- so none failed in a call over calm objects
pub calm_call : {words : List (List ℕ)} {before after : Moment} {status : ℕ} → IsCall words before after status
    → AreCalm words before.reads.faults before.writes before.takes before.puts before.tells → (status ≢ 4) × (status ≢ 5)
calm_call {words} {before} {after} {status} call calm = (
  λ failed. elim (call.reads.0 failed) [
    | inl read ↦ never (before.reads.faults read.0.file) (after.reads.faults read.0.file) (calm.each_read read.0.file read.0.asked) read.0.rose
    | inr take ↦ never before.takes after.takes calm.each_take take.1
  ],
  λ failed. elim (call.writes.0 failed) [
    | inl write ↦ never (before.writes write.0.out) (after.writes write.0.out) (calm.each_write write.0.out write.0.asked) write.0.rose
    | inr rest ↦ elim rest.1 [
      | inl put ↦ never before.puts after.puts calm.each_put put.0
      | inr tell ↦ never before.tells after.tells calm.each_tell tell.1
    ]
  ],
)
