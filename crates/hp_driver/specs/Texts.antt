-- The program of a text, and that there is no other, or none.
-- Source: own.
use Rattle.std.specs.Prelude.{◌≡◌, ℕ, List}
use Rattle.hp_tree.specs.declared.program.Item.{Item}
use Rattle.hp_compile.specs.Arranged.{IsArranged, IsArrangeable}
use Rattle.hp_compile.specs.Judged.{IsJudged}

-- the text has no other program
abbrev pub IsOnly : List ℕ → List Item → Type 0
IsOnly text program = (other : List Item) → IsJudged text other → other ≡ program

-- the text has no program that breaks no rule
abbrev pub HasNoProgram : List ℕ → Type 0
HasNoProgram text = (program : List Item) → IsJudged text program → IsArrangeable program → ⊥

-- A text has this program, and this is it once it is arranged.
abbrev pub IsArrangedText : List Item → List Item → Type 0
IsArrangedText program ordered = (text : List ℕ) × (ranks : List (List ℕ)) × IsJudged text program × IsArranged program ordered ranks
