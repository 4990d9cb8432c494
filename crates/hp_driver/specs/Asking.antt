-- Words that ask for a run, or for machines that choose the values of controllable variables.
use Rattle.std.specs.Prelude.{◌≡◌, ◌⊎◌, ℕ, true, List, [], ◌∷◌, ◌++◌, codes}
use Rattle.hp_tree.specs.declared.program.Item.{Item}
use Rattle.hp_driver.specs.Command.{IsRunOf, IsTellOf}
use Rattle.hp_driver.specs.Controls.{has_controls}

-- the words of `run` for a node
abbrev pub run_words : List ℕ → List ℕ → List (List ℕ)
run_words file node = codes "run" ∷ file ∷ node ∷ []

-- The words ask to run the node of this name by machines that choose, or to tell what its contract assumes and enforces.
pub data AsksToRun (words : List (List ℕ)) (file node : List ℕ) (program : List Item) : Type 0 where
  to_run : IsRunOf words file node → has_controls program ≡ true → AsksToRun words file node program
  to_tell : IsTellOf words file node → AsksToRun words file node program

-- the machine that is run for the node of a name
abbrev pub IsRunFor : List ℕ → List ℕ → Type 0
IsRunFor node name = (name ≡ node) ⊎ (name ≡ node ++ codes "$contract")
