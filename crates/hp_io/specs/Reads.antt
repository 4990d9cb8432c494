-- Reads of a folder.
use Rattle.std.specs.Prelude.{◌≡◌, ℕ, List, [], ◌∷◌, Option}
use Rattle.hp_io.specs.Faults.{Faults, Rose, AllSame}
use Rattle.hp_io.specs.Told.{Grows}

-- a read that gave the file of a name, and the most bytes that it might have given
abbrev pub Reading : Type 0
Reading = List ℕ × ℕ

-- what is known of the reads of a folder: those that gave a file, oldest first, where the folder tells them; and their faults, by name
pub record Reads : Type 0 where
  pub gave : Option (List Reading)
  pub faults : List ℕ → Faults

-- nothing was read
abbrev pub NothingRead : Reads → Reads → Type 0
NothingRead before after = (after.gave ≡ before.gave) × AllSame before.faults after.faults

-- the file of this name was read, with this limit
abbrev pub Gave : Reads → Reads → List ℕ → ℕ → Type 0
Gave before after name limit = Grows before.gave after.gave ((name, limit) ∷ []) × AllSame before.faults after.faults

-- a read of the file of this name failed, and it was the last call on the folder
abbrev pub ReadFailed : Reads → Reads → List ℕ → Type 0
ReadFailed before after name = (after.gave ≡ before.gave) × Rose (before.faults name) (after.faults name)
