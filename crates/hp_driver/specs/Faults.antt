-- Which calls of the outside failed in a call of the tool, by its status.
-- Where the status is 4 some input failed, a read of a file or a take of the console; where it is 5 some output did, a write of a file or a put of the console or of the diagnostics.
-- It is one call that failed, and it was the last on its object; on every other object none failed.
-- Source: own
use Rattle.std.specs.Prelude.{◌≡◌, ◌≢◌, ◌⊎◌, ℕ, List, [], ◌∷◌}
use Rattle.hp_base.specs.Limits.{most}
use Rattle.hp_base.specs.declared.limit.What.TheVariants.{Text}
use Rattle.hp_io.specs.Faults.{Faults, Rose, Same, AllSame}
use Rattle.hp_io.specs.Reads.{Reads}
use Rattle.hp_io.specs.Told.{Grows}

-- where the status is 4 this failed, and where it is another nothing did
abbrev pub InputFails : ℕ → Type 0 → Type 0 → Type 0
InputFails status Failed Same = (status ≡ 4 → Failed) × (status ≢ 4 → Same)

-- the same of output, where the status is 5
abbrev pub OutputFails : ℕ → Type 0 → Type 0 → Type 0
OutputFails status Failed Same = (status ≡ 5 → Failed) × (status ≢ 5 → Same)

-- takes of a console
abbrev pub TakeFaults : ℕ → Faults → Faults → Type 0
TakeFaults status before after = InputFails status (Rose before after) (Same before after)

-- puts of a console, or of the diagnostics
abbrev pub PutFaults : ℕ → Faults → Faults → Type 0
PutFaults status before after = OutputFails status (Rose before after) (Same before after)

-- of the puts of a console, and of the diagnostics, one failed
abbrev pub OnePutFailed : Faults → Faults → Faults → Faults → Type 0
OnePutFailed puts puts_after tells tells_after = (Rose puts puts_after × Same tells tells_after) ⊎ (Same puts puts_after × Rose tells tells_after)

-- puts of a console, and of the diagnostics
abbrev pub BothPutFaults : ℕ → Faults → Faults → Faults → Faults → Type 0
BothPutFaults status puts puts_after tells tells_after =
    OutputFails status (OnePutFailed puts puts_after tells tells_after) (Same puts puts_after × Same tells tells_after)

-- reads of the certificate in the file of this name: it is read with its limit, or not at all
abbrev pub ReadFaults : List ℕ → ℕ → Reads → Reads → Type 0
ReadFaults name status before after =
    InputFails status (Rose (before.faults name) (after.faults name)) (AllSame before.faults after.faults)
    × ((after.gave ≡ before.gave) ⊎ Grows before.gave after.gave ((name, most Text) ∷ []))

-- writes of the file of this name
abbrev pub WriteFaults : List ℕ → ℕ → (List ℕ → Faults) → (List ℕ → Faults) → Type 0
WriteFaults name status before after = OutputFails status (Rose (before name) (after name)) (AllSame before after)

-- writes of the file of this name, and puts of the diagnostics: of these one failed
abbrev pub WriteOrPutFaults : List ℕ → ℕ → (List ℕ → Faults) → (List ℕ → Faults) → Faults → Faults → Type 0
WriteOrPutFaults name status writes writes_after tells tells_after =
    OutputFails status ((Rose (writes name) (writes_after name) × Same tells tells_after) ⊎ (AllSame writes writes_after × Rose tells tells_after))
    (AllSame writes writes_after × Same tells tells_after)

-- all input: a read failed, as `Read` says, or else a take
abbrev pub InputFaults : Type 0 → ℕ → (List ℕ → Faults) → (List ℕ → Faults) → Faults → Faults → Type 0
InputFaults Read status reads reads_after takes takes_after =
    InputFails status ((Read × Same takes takes_after) ⊎ (AllSame reads reads_after × Rose takes takes_after)) (AllSame reads reads_after × Same takes takes_after)

-- all output: a write failed, as `Written` says, or else a put
abbrev pub OutputFaults : Type 0 → ℕ → (List ℕ → Faults) → (List ℕ → Faults) → Faults → Faults → Faults → Faults → Type 0
OutputFaults Written status writes writes_after puts puts_after tells tells_after =
    OutputFails status ((Written × Same puts puts_after × Same tells tells_after) ⊎ (AllSame writes writes_after × OnePutFailed puts puts_after tells tells_after))
    (AllSame writes writes_after × Same puts puts_after × Same tells tells_after)
