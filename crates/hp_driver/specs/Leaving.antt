-- What a command that writes leaves in the files, as the code has it.
use Rattle.std.specs.Prelude.{◌≡◌, ◌⊎◌, ℕ, List, Option, option_map}
use Rattle.std.specs.FinMap as map
use Rattle.hp_io.specs.Faults.{Faults, Rose}
use Rattle.hp_io.specs.Files.{Files, SameElsewhere, SameOrPrefix}
use Rattle.hp_io.specs.Told.{BothTold}
use Rattle.hp_compile.specs.Judged.{IsJudged}
use Rattle.hp_obc.specs.Machines.{Obc}
use Rattle.hp_tree.specs.Programs.{Node}
use Rattle.hp_tree.specs.declared.program.Item.{Item}
use Rattle.hp_driver.specs.Command.{IsCompileOf, IsProveOf}
use Rattle.hp_driver.specs.Commanded.{SpellsTask}
use Rattle.hp_driver.specs.Leaves.{Leaves, IsPrinted}
use Rattle.hp_driver.specs.Outcome.{Gives, IsHeld, IsOnly, HasContract}
pub use Rattle.hp_driver.specs.WrittenText.{WritesText}
use Rattle.hp_driver.specs.declared.words.Task.{Task}
use Rattle.hp_driver.specs.declared.words.Task.TheVariants.{Run, Tell, Check, Compile}

-- the machines were written, or not, or in part
pub data WritesMachines (o : Obc) (out : List ℕ) (before after : Option Files) : ℕ → Type 0 where
  nothing : after ≡ before → WritesMachines o out before after 6
  whole : {text : List ℕ} → IsPrinted o text → after ≡ option_map (λ held. map.insert held out text) before → WritesMachines o out before after 0
  part : {text : List ℕ} {status : ℕ} → (status ≡ 5) ⊎ (status ≡ 6) → IsPrinted o text →
      BothTold before after (λ b a. SameElsewhere b a out) → BothTold before after (λ b a. SameOrPrefix b a out text) → WritesMachines o out before after status

-- whatever text the program is of
abbrev pub ProgramLeaves : List ℕ → List Item → Option Files → Option Files → ℕ → Type 0
ProgramLeaves out program before after status =
    (words : List (List ℕ)) (file text : List ℕ) → IsJudged text program → IsOnly text program → Gives before file text → IsCompileOf words file out → Leaves words before after status

-- whatever words asked for a certificate of the contract of a node of this name, in the ordered program of a text, or for one of this contract
abbrev pub TextLeaves : List ℕ → List ℕ → List ℕ → Option Files → Option Files → ℕ → Type 0
TextLeaves name cert text before after status = (words : List (List ℕ)) (file : List ℕ) → IsProveOf words file name cert → Gives before file text → Leaves words before after status

abbrev pub NodeLeaves : List ℕ → List ℕ → List Item → Option Files → Option Files → ℕ → Type 0
NodeLeaves name cert ordered before after status =
    (words : List (List ℕ)) (file : List ℕ) (program : List Item) (held : IsHeld before file program) → held.clocked ≡ ordered → IsProveOf words file name cert → Leaves words before after status

abbrev pub ContractLeaves : List ℕ → List Item → Node → Option Files → Option Files → ℕ → Type 0
ContractLeaves cert ordered node before after status =
    (words : List (List ℕ)) (file name : List ℕ) (c : HasContract before file name) → c.held.clocked ≡ ordered → c.node ≡ node → IsProveOf words file name cert → Leaves words before after status

-- whatever words and folder gave the source text
abbrev pub LeavesBy : Task → List ℕ → Option Files → Option Files → ℕ → Type 0
LeavesBy task text before after status = (words : List (List ℕ)) (file : List ℕ) → SpellsTask words file task → Gives before file text → Leaves words before after status

-- a write of the file that the task writes failed, and no call on the folder followed it
abbrev pub RoseInWrite : Task → (List ℕ → Faults) → (List ℕ → Faults) → Type 0
RoseInWrite (Run node) before after = ⊥
RoseInWrite (Tell node) before after = ⊥
RoseInWrite (Check print) before after = ⊥
RoseInWrite (Compile out) before after = Rose (before out.now) (after out.now)
