-- Without controllable variables nothing is chosen: the one meaning of clocked equations under a choice is the one that they have without choices.
-- Source: own.
use Rattle.std.specs.Prelude.{List, []}
use Rattle.std.specs.List.{AllByRecursion}
use Rattle.hp_tree.specs.declared.program.Item.{Item}
use Rattle.hp_tree.specs.Meaning.{types_of}
use Rattle.hp_meaning.specs.Causal.Runs.{NoControls}
use Rattle.law_judged.specs.Named.Scoped.{EachNode}
use Rattle.hp_flat.specs.Nodes.{FlatNode}
use Rattle.law_choices.specs.OnClocks.Meaning.{AnswersAlike, HasOneMeaning}
use Rattle.law_choices.specs.OnClocks.WellMade.{callees_of}
use Rattle.law_choices.specs.Choosing.Choices.{Choices}
use Rattle.law_choices.specs.Choosing.Meaning.{HasOneMeaningUnder}
use Rattle.law_choices.specs.Choosing.Programs.{AreChoices}
use Rattle.law_choices.specs.Runs.Laws.{ChoosesValues}

-- The two meanings of the clocked equations of a program without controllable variables answer alike.
abbrev pub UncontrolledProgramLaw : Type 0
UncontrolledProgramLaw =
    (after : List Item) → NoControls after → (choices : Choices) → AreChoices after choices → (fs : List FlatNode) → (one : HasOneMeaning (callees_of after) fs) (under : HasOneMeaningUnder choices (callees_of after) fs)
    → AllByRecursion (λ (n : FlatNode). AnswersAlike one.answers under.answers (callees_of after).takes n.name) fs

-- no values are chosen
abbrev pub no_choice : Choices
no_choice f args earlier = []

-- For such a program that is a choice.
abbrev pub NoChoiceLaw : Type 0
NoChoiceLaw = (after : List Item) → NoControls after → AreChoices after no_choice × EachNode (ChoosesValues (types_of after) no_choice) after
