-- A text is refused for one cause. So the one that is named is the first: there is no other.
-- Source: own.
use Rattle.std.specs.Prelude.{◌≡◌, ◌⊎◌, ℕ, List}
use Rattle.hp_tree.specs.declared.program.Item.{Item}
use Rattle.hp_cause.specs.declared.error.CauseErr.TheVariants.{Cycle}
use Rattle.hp_compile.specs.Arranged.{IsArranged}
use Rattle.hp_compile.specs.Judged.{IsJudged}
use Rattle.hp_compile.specs.Refusals.{Causes}
use Rattle.hp_compile.specs.declared.refusal.Refusal.{Refusal}
use Rattle.hp_compile.specs.declared.refusal.Refusal.TheVariants.{Cause, OutOfMemory}

-- They are one cause. Of cycles of reads it is asked that they are of one node, since a node may have several.
abbrev pub AreSame : Refusal → Refusal → Type 0
AreSame (Cause (Cycle node points)) (Cause (Cycle other others)) = node ≡ other
AreSame cause other = cause ≡ other

-- A text has at most one,
abbrev pub OneCauseLaw : Type 0
OneCauseLaw = (text : List ℕ) (cause other : Refusal) → Causes text cause → Causes text other → AreSame cause other

-- and one that has an accepted program has none.
abbrev pub NoCauseLaw : Type 0
NoCauseLaw = (text : List ℕ) (program clocked : List Item) (ranks : List (List ℕ)) (cause : Refusal) → IsJudged text program → IsArranged program clocked ranks → Causes text cause → ⊥

-- What is named of a text that has this cause is this one, or want of memory.
abbrev pub Names : Refusal → Refusal → Type 0
Names cause named = (named ≡ OutOfMemory) ⊎ AreSame named cause
