-- What `past` does behind its words, and why: a row for each cause.
use Rattle.std.specs.Prelude.{◌≤◌, ◌<◌, ℕ, List, [], length, Option}
use Rattle.hp_base.specs.Limits.{most}
use Rattle.hp_base.specs.declared.limit.What.TheVariants.{Size}
use Rattle.hp_io.specs.Files.{Files}
use Rattle.hp_tree.specs.declared.program.Item.{Item}
use Rattle.hp_print.specs.ProgramTokens.{canonical_text}
use Rattle.hp_print.specs.ReadBack.{IsReadBack}
use Rattle.hp_compile.specs.Judged.{IsProgramOf}
use Rattle.hp_compile.specs.Refusals.{Causes}
use Rattle.hp_compile.specs.declared.refusal.Refusal.{Refusal}
use Rattle.hp_past.specs.Unfolding.{unfolded}
use Rattle.law_past.specs.Unfolded.{TellsFormulas}
use Rattle.hp_driver.specs.Diagnostics.{refusal_line, too_long_line}
use Rattle.hp_driver.specs.Given.{Gives, GivesMoreThan}

-- the file holds the text of this program, whatever its names and types are
pub record HoldsProgram (files : Option Files) (file : List ℕ) (program : List Item) : Type 0 where
  pub text : List ℕ
  pub gives : Gives files file text
  pub program_of : IsProgramOf text program

-- the text that is written of a program
abbrev pub unfolded_text : List Item → List ℕ
unfolded_text program = canonical_text (unfolded program)

-- the line of the diagnostics, and the status
module _ (files : Option Files) (file : List ℕ) where
  pub data PastOutcome : List ℕ → ℕ → Type 0 where
    -- the source text is too long
    too_long : GivesMoreThan files file (most Size) → PastOutcome (too_long_line Size) 1
    -- it is refused, for it is no program by the grammar within its limits
    refused : (text : List ℕ) (cause : Refusal) → Gives files file text → Causes text cause → ((program : List Item) → IsProgramOf text program → ⊥) → PastOutcome (refusal_line cause) 1
    -- the text that would be written is longer than a source text may be
    too_long_unfolded : {program : List Item} → HoldsProgram files file program → most Size < length (unfolded_text program) → PastOutcome (too_long_line Size) 1
    -- it was written, and is read back as that program, but for places, and where it is accepted its new variables have the values of the formulas; or it could not be written
    written : {program : List Item} → HoldsProgram files file program → length (unfolded_text program) ≤ most Size → IsReadBack (unfolded program) (unfolded_text program) → TellsFormulas program → PastOutcome [] 0
    not_written : {program : List Item} → HoldsProgram files file program → length (unfolded_text program) ≤ most Size → PastOutcome [] 5
