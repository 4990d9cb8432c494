-- What is asked for, as the code has it.
use Rattle.std.specs.Prelude.{◌≡◌, ℕ, List, Option, MatchOption}
use Rattle.std.specs.Borrow.{Bor}
use Rattle.std.specs.Option.{option_copied}
use Rattle.hp_arguments.specs.Words.{IsArgument}
use Rattle.hp_base.specs.declared.limit.What.{What}
use Rattle.hp_base.specs.declared.limit.What.TheVariants.{Size, Text}
use Rattle.hp_driver.specs.Command.{IsRunOf, IsTellOf, IsCheckOf, IsCompileOf, IsPastOf, IsExecOf, IsProveOf, IsVerifyOf, IsSegmentOf}
use Rattle.hp_driver.specs.declared.words.Command.{Command}
use Rattle.hp_driver.specs.declared.words.Command.TheVariants.{Source, Past, Exec, Prove, Verify}
use Rattle.hp_driver.specs.declared.words.Segment.{Segment}
use Rattle.hp_driver.specs.declared.words.Task.{Task}
use Rattle.hp_driver.specs.declared.words.Task.TheVariants.{Run, Tell, Check, Compile}

-- two words, where both are arguments
abbrev pub AreBoth : List ℕ → List ℕ → Option (Bor (List ℕ) × Bor (List ℕ)) → Type 0
AreBoth file node found = MatchOption found (IsArgument file → IsArgument node → ⊥) (λ both. (both.0.now ≡ file) × (both.1.now ≡ node) × IsArgument file × IsArgument node)

-- the words ask for this task with this source file
abbrev pub SpellsTask : List (List ℕ) → List ℕ → Task → Type 0
SpellsTask words file (Run node) = IsRunOf words file node.now
SpellsTask words file (Tell node) = IsTellOf words file node.now
SpellsTask words file (Check print) = IsCheckOf words file print
SpellsTask words file (Compile out) = IsCompileOf words file out.now

-- the words ask for this
abbrev pub Spells : List (List ℕ) → Command → Type 0
Spells words (Source file task) = SpellsTask words file.now task
Spells words (Past file out) = IsPastOf words file.now out.now
Spells words (Exec file node) = IsExecOf words file.now node.now
Spells words (Prove file node cert) = IsProveOf words file.now node.now cert.now
Spells words (Verify file node cert) = IsVerifyOf words file.now node.now cert.now

-- the words ask for this run
abbrev pub SpellsSegment : List (List ℕ) → Segment → Type 0
SpellsSegment words s = IsSegmentOf words s.file.now s.node.now (option_copied s.from) s.out.now

-- the file that is read
abbrev pub file_of : Command → List ℕ
file_of (Source file task) = file.now
file_of (Past file out) = file.now
file_of (Exec file node) = file.now
file_of (Prove file node cert) = file.now
file_of (Verify file node cert) = file.now

-- the limit on its bytes: that of a source text, or of a text of machines
abbrev pub limit_of : Command → What
limit_of (Source file task) = Size
limit_of (Past file out) = Size
limit_of (Exec file node) = Text
limit_of (Prove file node cert) = Size
limit_of (Verify file node cert) = Size
