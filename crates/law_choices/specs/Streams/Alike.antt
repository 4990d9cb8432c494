-- Whatever nodes answer with the chosen values is what the one meaning of their clocked equations answers.
-- Source: own.
use Rattle.std.specs.Prelude.{List, []}
use Rattle.std.specs.List.{AllByRecursion}
use Rattle.hp_base.specs.Kinds.{KindData}
use Rattle.hp_obc.specs.Machines.{ObcType}
use Rattle.hp_obc.specs.Steps.{Names}
use Rattle.hp_flat.specs.Nodes.{FlatNode}
use Rattle.law_equations.specs.Meaning.Kinding.{Callees}
use Rattle.law_equations.specs.Meaning.Reactions.{Answers}
use Rattle.law_choices.specs.OnClocks.Meaning.{AnswersAlike}
use Rattle.law_choices.specs.Choosing.Choices.{Choices, ChoicesOfKinds}
use Rattle.law_choices.specs.Choosing.Meaning.{AreInTurn, GivesAnswers, HasOneMeaningUnder}

-- Nodes in turn answer in one way, also if it is not known beforehand of which kinds the answers are.
abbrev pub AlikeLaw : Type 0
AlikeLaw =
    (types : List ObcType) (callees : Callees) (controls : Names (List KindData)) (choices : Choices) (ns : List FlatNode) → AreInTurn types callees controls [] ns → ChoicesOfKinds choices callees controls
    → (one : HasOneMeaningUnder choices callees ns) (others : Answers) → AllByRecursion (GivesAnswers choices others callees.takes) ns → AllByRecursion (λ (n : FlatNode). AnswersAlike one.answers others callees.takes n.name) ns
