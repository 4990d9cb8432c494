-- Which files are read in a call of the tool, and with which limits.
use Rattle.std.specs.Prelude.{◌≡◌, ◌⊎◌, ℕ, List, [], ◌∷◌, Option, Some, is_some, IsTrue}
use Rattle.hp_base.specs.Limits.{most}
use Rattle.hp_base.specs.declared.limit.What.TheVariants.{Size, Text}
use Rattle.hp_io.specs.Files.{Files}
use Rattle.hp_io.specs.Reads.{Reading}
use Rattle.hp_io.specs.Told.{Grows}
use Rattle.hp_tree.specs.Meaning.{node_among}
use Rattle.hp_tree.specs.Programs.{Node}
use Rattle.hp_tree.specs.declared.program.Item.{Item}
use Rattle.hp_verdicts.specs.Verified.{HasMachine}
use Rattle.hp_driver.specs.Command.{IsPastOf, IsExecOf, IsVerifyOf, IsSegmentOf, ReadsSource}
use Rattle.hp_driver.specs.Given.{Gives}
use Rattle.hp_driver.specs.Outcome.{HasContract}
use Rattle.hp_driver.specs.declared.words.Command.{Command}
use Rattle.hp_driver.specs.declared.words.Command.TheVariants.{Source, Past, Exec, Prove, Verify}

-- The node of this name, of the program that the file holds, has a contract, and this has a machine.
pub record HasContractMachine (files : Option Files) (file name : List ℕ) : Type 0 where
  pub there : HasContract files file name
  pub machine : HasMachine there.held.clocked there.node

-- What is read for these words: nothing; the file, with the limit of a source text or of a text of machines; of `verify` the certificate behind the source text, where the contract of the node has a machine; and of `resume` the checkpoint behind it.
pub data AreReadings (words : List (List ℕ)) (files : Option Files) : List Reading → Type 0 where
  none : AreReadings words files []
  a_source : {file : List ℕ} → ReadsSource words file → AreReadings words files ((file, most Size) ∷ [])
  a_tree : {file out : List ℕ} → IsPastOf words file out → AreReadings words files ((file, most Size) ∷ [])
  machines : {file node : List ℕ} → IsExecOf words file node → AreReadings words files ((file, most Text) ∷ [])
  a_certificate : {file node cert : List ℕ} → IsVerifyOf words file node cert → HasContractMachine files file node → AreReadings words files ((file, most Size) ∷ (cert, most Text) ∷ [])
  a_segment : {file node out : List ℕ} {from : Option (List ℕ)} → IsSegmentOf words file node from out → AreReadings words files ((file, most Size) ∷ [])
  a_checkpoint : {file node mem out : List ℕ} → IsSegmentOf words file node (Some mem) out → AreReadings words files ((file, most Size) ∷ (mem, most Text) ∷ [])

-- whatever file holds the text
abbrev pub TextHasMachine : List ℕ → List ℕ → Type 0
TextHasMachine text name = (files : Option Files) (file : List ℕ) → Gives files file text → HasContractMachine files file name

-- so in an ordered program
abbrev pub NodeHasMachine : List Item → List ℕ → Type 0
NodeHasMachine ordered name = (n : Node) × (node_among ordered name ≡ Some n) × IsTrue (is_some n.contract) × HasMachine ordered n

-- What is read behind the file, which holds this text: nothing, or the certificate of `verify`.
abbrev pub ReadsOn : Command → List ℕ → Option (List Reading) → Option (List Reading) → Type 0
ReadsOn (Source file task) text before after = after ≡ before
ReadsOn (Past file out) text before after = after ≡ before
ReadsOn (Exec file node) text before after = after ≡ before
ReadsOn (Prove file node cert) text before after = after ≡ before
ReadsOn (Verify file node cert) text before after = (after ≡ before) ⊎ (Grows before after ((cert.now, most Text) ∷ []) × TextHasMachine text node.now)
