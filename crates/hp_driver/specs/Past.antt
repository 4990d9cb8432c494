-- What `past` does with a text, as the code has it: whatever words and folder gave it.
use Rattle.std.specs.Prelude.{ℕ, ◌≡◌, ◌≤◌, ◌<◌, ◌⊎◌, ◌∷◌, ◌++◌, List, [], length, Option}
use Rattle.hp_base.specs.Limits.{most}
use Rattle.hp_base.specs.declared.limit.What.TheVariants.{Size}
use Rattle.hp_io.specs.Files.{Files}
use Rattle.hp_tree.specs.declared.program.Item.{Item}
use Rattle.hp_compile.specs.Judged.{IsProgramOf}
use Rattle.hp_driver.specs.Command.{IsPastOf}
use Rattle.hp_driver.specs.Diagnostics.{too_long_line}
use Rattle.hp_driver.specs.Given.{Gives}
use Rattle.hp_driver.specs.Leaves.{Leaves}
use Rattle.hp_driver.specs.Leaving.{WritesText}
use Rattle.hp_driver.specs.Outcome.{Outcome}

abbrev pub UnfoldsText : List ℕ → List ℕ → List ℕ → ℕ → Type 0
UnfoldsText out text line status = (words : List (List ℕ)) (files : Option Files) (file : List ℕ) → IsPastOf words file out → Gives files file text → Outcome words files [] line status

abbrev pub UnfoldsProgram : List ℕ → List Item → List ℕ → ℕ → Type 0
UnfoldsProgram out program line status = (text : List ℕ) → IsProgramOf text program → UnfoldsText out text line status

abbrev pub LeavesOfText : List ℕ → List ℕ → Option Files → Option Files → ℕ → Type 0
LeavesOfText out text before after status = (words : List (List ℕ)) (file : List ℕ) → IsPastOf words file out → Gives before file text → Leaves words before after status

abbrev pub LeavesOfProgram : List ℕ → List Item → Option Files → Option Files → ℕ → Type 0
LeavesOfProgram out program before after status = (text : List ℕ) → IsProgramOf text program → LeavesOfText out text before after status

-- a source text is too long, or was written, or not
pub data WritesSource (text : List ℕ) : List ℕ → ℕ → Type 0 where
  too_long : most Size < length text → WritesSource text (too_long_line Size) 1
  written : length text ≤ most Size → WritesSource text [] 0
  not_written : length text ≤ most Size → WritesSource text [] 5
  no_memory : WritesSource text [] 6
  line_failed : {status : ℕ} (line : List ℕ) (b : ℕ) (rest : List ℕ) → WritesSource text (line ++ b ∷ rest) status → WritesSource text line 5

-- what becomes of the files
abbrev pub LeavesSource : List ℕ → List ℕ → Option Files → Option Files → ℕ → Type 0
LeavesSource out text before after status = ((after ≡ before) × (status ≡ 0 → ⊥)) ⊎ ((length text ≤ most Size) × WritesText text out before after status)
