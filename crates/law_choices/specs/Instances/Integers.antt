-- The integers that an instant of the tree holds, in a reaction with chosen values, are of 32 bits.
-- Source: own. The arithmetic of the language is that of 32 bits, so over inputs and constants of 32 bits no other integer is reached.
use Rattle.std.specs.Prelude.{ℕ, List}
use Rattle.std.specs.List.{AllByRecursion}
use Rattle.hp_base.specs.declared.value.Value.{Value}
use Rattle.hp_tree.specs.declared.program.Item.{Item}
use Rattle.hp_tree.specs.Instant.{Instant, Past, Place}
use Rattle.hp_tree.specs.Programs.{Node}
use Rattle.hp_meaning.specs.Causal.Causality.{IsRanked}
use Rattle.law_equations.specs.Answered.Short.{AreShort, IsShort}
use Rattle.law_judged.specs.Named.Scoped.{EachNode}
use Rattle.law_wellmade.specs.Spelled.Integers.{ContractShort, NodeShort}
use Rattle.law_choices.specs.Choosing.Choices.{Choices}
use Rattle.law_choices.specs.Runs.Chosen.{ChosenReaction}

-- each integer that an instant holds has 32 bits, at every place and at every depth
abbrev pub HoldsShort : Instant → Type 0
HoldsShort now = (p : Place) → IsShort (now p)

-- so has each one that a node writes, also in its contract
abbrev pub WritesShort : Node → Type 0
WritesShort n = NodeShort n × ContractShort n.contract

-- and each one that is chosen
abbrev pub ChoosesShort : Choices → Type 0
ChoosesShort choices = (f : List ℕ) (args : List Value) (earlier : List (List Value)) → AreShort (choices f args earlier)

-- Where a ranked program writes such integers, and such are chosen, each instant of a reaction over such inputs holds such alone.
abbrev pub ShortReactionLaw : Type 0
ShortReactionLaw =
    (choices : Choices) (program : List Item) (f : List ℕ) (inputs : List (List Value)) (past : Past) → IsRanked program → EachNode WritesShort program → ChoosesShort choices
    → AllByRecursion AreShort inputs → ChosenReaction choices program f inputs past → AllByRecursion HoldsShort past
