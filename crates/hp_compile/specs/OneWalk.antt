-- The code counts a program in one walk over the tree of its text, in which an inlined call brings what is in its node. What is said so is said of the program with its inlined calls replaced.
-- Source: own.
use Rattle.std.specs.Prelude.{◌≡◌, ◌↔◌, ℕ, List}
use Rattle.hp_tree.specs.declared.program.Item.{Item}
use Rattle.hp_expand.specs.Refusals.{refusal_of, IsFormed}
use Rattle.hp_compile.specs.Arranged.{IsWellFormed, first_breach}
use Rattle.hp_compile.specs.Judged.{IsJudged}

-- The walk finds nothing exactly in a well-formed program,
abbrev pub FormedLaw : Type 0
FormedLaw = (text : List ℕ) (program : List Item) → IsJudged text program → IsWellFormed program ↔ IsFormed program

-- and in another one its first breach, with the same node, limit and number.
abbrev pub BreachLaw : Type 0
BreachLaw = (text : List ℕ) (program : List Item) → IsJudged text program → refusal_of program ≡ first_breach program
