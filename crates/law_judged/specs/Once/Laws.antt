-- What is proved of programs in which each name has one equation in its block.
use Rattle.std.specs.Prelude.{◌<◌, List}
use Rattle.hp_tree.specs.declared.program.Item.{Item}
use Rattle.hp_tree.specs.Programs.{Node}
use Rattle.hp_names.specs.Rules.{WellNamed}
use Rattle.hp_typing.specs.Rules.{WellTyped}
use Rattle.hp_typing.specs.DefinitionRules.{WellDefined}
use Rattle.law_judged.specs.Typed.Merges.{MergesHaveParts}
use Rattle.hp_meaning.specs.Clocking.Clocking.{Assignment, node_with_clocks}
use Rattle.hp_expand.specs.Formed.{KeepsLimits}
use Rattle.hp_expand.specs.Numbering.{no_node, replaced}
use Rattle.law_judged.specs.Named.Scoped.{EachNode}
use Rattle.law_judged.specs.Replaced.Inlined.{in_node}
use Rattle.law_judged.specs.Replaced.Fitting.{IsPlain, NodeNames}
use Rattle.law_judged.specs.Replaced.Laws.{AllCanBeReplaced}
use Rattle.law_judged.specs.Once.Once.{DefinedOnce}
use Rattle.law_judged.specs.Once.Singly.{DefinedSingly}

-- In a program whose names are well used and well defined each name has one equation in its block, and stands there once on the left.
abbrev pub SinglyLaw : Type 0
SinglyLaw = (program : List Item) → WellNamed program → WellDefined program → EachNode DefinedSingly program

abbrev pub OnceLaw : Type 0
OnceLaw = (program : List Item) → WellNamed program → WellDefined program → EachNode DefinedOnce program

-- Writing clocks keeps that.
abbrev pub ClocksLaw : Type 0
ClocksLaw = (n : Node) (at : Assignment) → DefinedOnce n → DefinedOnce (node_with_clocks at n)

-- So does replacing inlined calls, by which a left side of several names becomes several equations.
abbrev pub ReplacedOnceLaw : Type 0
ReplacedOnceLaw = (program : List Item) → AllCanBeReplaced no_node program → EachNode DefinedSingly program → EachNode DefinedOnce (replaced program)

-- So in the replaced program of a judged one each name has one equation in its block. The names of the program have no sign, as in
-- each text, each `merge` has a part, and no node has a million inlined calls.
abbrev pub JudgedOnceLaw : Type 0
JudgedOnceLaw =
    (program : List Item) → WellNamed program → WellTyped program → WellDefined program → KeepsLimits program → MergesHaveParts program → EachNode (NodeNames IsPlain) program → EachNode (λ n. in_node n < 1000000) program
    → EachNode DefinedOnce (replaced program)
