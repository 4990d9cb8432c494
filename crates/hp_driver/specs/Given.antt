-- What a folder tells of a file.
use Rattle.std.specs.Prelude.{ℕ, List, Option}
use Rattle.hp_io.specs.Files.{Files, Holds, HoldsMoreThan}
use Rattle.hp_io.specs.Told.{Told}

-- The file holds this text, where the folder tells it.
abbrev pub Gives : Option Files → List ℕ → List ℕ → Type 0
Gives files name text = Told files (λ held. Holds held name text)

-- it holds more bytes than this
abbrev pub GivesMoreThan : Option Files → List ℕ → ℕ → Type 0
GivesMoreThan files name limit = Told files (λ held. HoldsMoreThan held name limit)
