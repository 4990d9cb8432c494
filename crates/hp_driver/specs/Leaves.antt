-- What becomes of the files of a call, and where a write of them failed.
use Rattle.std.specs.Prelude.{◌≡◌, ◌≢◌, ◌≤◌, ◌⊎◌, ℕ, List, length, Option, option_map}
use Rattle.std.specs.FinMap as map
use Rattle.hp_base.specs.Limits.{most}
use Rattle.hp_base.specs.declared.limit.What.TheVariants.{Size, Text}
use Rattle.hp_io.specs.Faults.{Faults, Rose}
use Rattle.hp_io.specs.Files.{Files, SameElsewhere, SameOrPrefix}
use Rattle.hp_io.specs.Told.{BothTold}
use Rattle.hp_obc.specs.Machines.{Obc}
use Rattle.hp_obc.specs.Steps.{Memory}
use Rattle.hp_tree.specs.declared.program.Item.{Item}
use Rattle.hp_obctext.specs.Answers.{IsTextOf}
use Rattle.hp_obctext.specs.Labels.{file_of}
use Rattle.hp_obctext.specs.Files.{file_words}
use Rattle.hp_obctext.specs.Words.{printed}
use Rattle.law_decided.specs.Outcomes.{IsProofInGame}
use Rattle.hp_driver.specs.Checkpoints.{IsCheckpointOf}
use Rattle.hp_driver.specs.Command.{IsCompileOf, IsPastOf, IsProveOf, IsSegmentOf, IsOver, Writes}
use Rattle.hp_driver.specs.Outcome.{AreCompiled, HasContract}
use Rattle.hp_driver.specs.PastOutcome.{HoldsProgram, unfolded_text}
use Rattle.hp_driver.specs.Segments.{IsRunnable}

-- the canonical text of machines; where it is no longer than a text of machines may be, it is read as these machines
pub record IsPrinted (o : Obc) (text : List ℕ) : Type 0 where
  pub spelled : text ≡ printed (file_words (file_of o))
  pub stands : length text ≤ most Text → IsTextOf text o

-- The files before and behind a call, and its status.
module _ (words : List (List ℕ)) (before after : Option Files) where
  pub data Leaves : ℕ → Type 0 where
    -- no file is changed, and the call is not one that did what `compile`, `past`, `prove`, `save` or `resume` is for
    as_they_were : {status : ℕ} → after ≡ before → ((out : List ℕ) → Writes words out → status ≢ 0) → Leaves status
    -- the file that is named holds the machines of the program
    written : {file out text : List ℕ} {o : Obc} → IsCompileOf words file out → AreCompiled before file o → IsPrinted o text →
        after ≡ option_map (λ held. map.insert held out text) before → Leaves 0
    -- the write failed: the file that is named holds what it held, or the first bytes of their text, and no other is changed
    in_part : {file out text : List ℕ} {o : Obc} {status : ℕ} → (status ≡ 5) ⊎ (status ≡ 6) → IsCompileOf words file out → AreCompiled before file o → IsPrinted o text →
        BothTold before after (λ b a. SameElsewhere b a out) → BothTold before after (λ b a. SameOrPrefix b a out text) → Leaves status
    -- the file that is named holds the program without the formulas of its contracts
    unfolded : {file out : List ℕ} {program : List Item} → IsPastOf words file out → HoldsProgram before file program → length (unfolded_text program) ≤ most Size →
        after ≡ option_map (λ held. map.insert held out (unfolded_text program)) before → Leaves 0
    unfolded_in_part : {file out : List ℕ} {program : List Item} {status : ℕ} → (status ≡ 5) ⊎ (status ≡ 6) → IsPastOf words file out → HoldsProgram before file program →
        BothTold before after (λ b a. SameElsewhere b a out) → BothTold before after (λ b a. SameOrPrefix b a out (unfolded_text program)) → Leaves status
    -- the file that is named holds the certificate of the machine of the node's contract
    proved : {file name cert text : List ℕ} → IsProveOf words file name cert → (c : HasContract before file name) → IsProofInGame c.held.clocked c.node text →
        after ≡ option_map (λ held. map.insert held cert text) before → Leaves 0
    -- the write failed: the file that is named holds what it held, or the first bytes of the certificate, and no other is changed
    proof_in_part : {file name cert text : List ℕ} {status : ℕ} → (status ≡ 5) ⊎ (status ≡ 6) → IsProveOf words file name cert → (c : HasContract before file name) →
        IsProofInGame c.held.clocked c.node text → BothTold before after (λ b a. SameElsewhere b a cert) → BothTold before after (λ b a. SameOrPrefix b a cert text) → Leaves status
    -- the file that is named holds the checkpoint of a memory of the machine that `run` runs for the node
    saved : {file node out text : List ℕ} {from : Option (List ℕ)} {o : Obc} {memory : Memory} → IsSegmentOf words file node from out → IsRunnable before file node o →
        IsCheckpointOf o node memory text → after ≡ option_map (λ held. map.insert held out text) before → Leaves 0
    -- the write failed: the file that is named holds what it held, or the first bytes of the checkpoint, and no other is changed
    saved_in_part : {file node out text : List ℕ} {from : Option (List ℕ)} {o : Obc} {memory : Memory} {status : ℕ} → (status ≡ 5) ⊎ (status ≡ 6) → IsSegmentOf words file node from out →
        IsRunnable before file node o → IsCheckpointOf o node memory text → BothTold before after (λ b a. SameElsewhere b a out) → BothTold before after (λ b a. SameOrPrefix b a out text) → Leaves status

-- a write of the file that is to be written failed, and no call on the folder followed it
pub record WriteRose (words : List (List ℕ)) (before after : List ℕ → Faults) : Type 0 where
  pub out : List ℕ
  pub asked : Writes words out
  pub rose : Rose (before out) (after out)

-- a read of a file that is to be read failed, and no call on the folder followed it
pub record ReadRose (words : List (List ℕ)) (before after : List ℕ → Faults) : Type 0 where
  pub file : List ℕ
  pub asked : IsOver words file
  pub rose : Rose (before file) (after file)
