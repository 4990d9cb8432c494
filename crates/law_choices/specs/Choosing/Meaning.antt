-- Programs of clocked equations whose controllable variables have chosen values: what their nodes answer.
-- Source: own.
use Rattle.std.specs.Prelude.{◌≡◌, ⊤, ℕ, false, List, [], ◌∷◌}
use Rattle.std.specs.List.{AllByRecursion}
use Rattle.hp_base.specs.Kinds.{KindData, AreOfKinds}
use Rattle.hp_base.specs.declared.value.Value.{Value}
use Rattle.hp_obc.specs.Form.{has_name}
use Rattle.hp_obc.specs.Machines.{ObcType}
use Rattle.hp_obc.specs.Steps.{Names}
use Rattle.hp_flat.specs.Nodes.{FlatNode}
use Rattle.law_equations.specs.Meaning.Fitting.{Fits}
use Rattle.law_equations.specs.Meaning.Instants.{Instant}
use Rattle.law_equations.specs.Meaning.Kinding.{Callees, IsWellMade, AnswersOfKinds}
use Rattle.law_equations.specs.Meaning.Reactions.{Answers, outputs_at}
use Rattle.law_equations.specs.Followed.Programs.{CallsOnly}
use Rattle.law_choices.specs.OnClocks.Meaning.{HasSome, AnswersAlike, HasOneMeaning}
use Rattle.law_choices.specs.Choosing.Choices.{Choices, ReactionUnder, ChoicesOfKinds, IsSteered}

-- Nodes in turn: each is well made, what is said of it is so, it has another name than those before it, and calls these alone.
abbrev pub AreInTurn : List ObcType → Callees → Names (List KindData) → List (List ℕ) → List FlatNode → Type 0
AreInTurn types callees controls earlier [] = ⊤
AreInTurn types callees controls earlier (n ∷ ns) =
    IsWellMade types callees n × IsSteered types callees controls n × (has_name earlier n.name ≡ false) × CallsOnly earlier n.eqns × AreInTurn types callees controls (n.name ∷ earlier) ns

-- What is answered on arguments, after those of earlier instants, are the outputs of a reaction with the chosen values, at its newest instant.
pub record GivesAnswer (choices : Choices) (answers : Answers) (n : FlatNode) (args : List Value) (earlier : List (List Value)) : Type 0 where
  pub now : Instant
  pub past : List Instant
  pub reaction : ReactionUnder choices answers n (args ∷ earlier) (now ∷ past)
  pub answer : answers n.name args earlier ≡ outputs_at n now

-- so it is on all arguments of the kinds that calls give the node
abbrev pub GivesAnswers : Choices → Answers → Names (List KindData) → FlatNode → Type 0
GivesAnswers choices answers takes n = (args : List Value) (earlier : List (List Value)) → AreOfKinds (takes n.name) args → AllByRecursion (AreOfKinds (takes n.name)) earlier → GivesAnswer choices answers n args earlier

-- and clocks fit in that reaction
pub record FitsAnswer (choices : Choices) (answers : Answers) (takes : Names (List KindData)) (n : FlatNode) (args : List Value) (earlier : List (List Value)) : Type 0 where
  pub given : GivesAnswer choices answers n args earlier
  pub fit : AllByRecursion (Fits takes n) (given.now ∷ given.past)

abbrev pub FitsAnswers : Choices → Answers → Names (List KindData) → FlatNode → Type 0
FitsAnswers choices answers takes n = (args : List Value) (earlier : List (List Value)) → AreOfKinds (takes n.name) args → AllByRecursion (AreOfKinds (takes n.name)) earlier → FitsAnswer choices answers takes n args earlier

-- The nodes of a program answer with the chosen values, each by a function of what calls gave it so far; and whatever answers so answers alike.
pub record HasOneMeaningUnder (choices : Choices) (callees : Callees) (ns : List FlatNode) : Type 0 where
  pub answers : Answers
  pub typed : AnswersOfKinds answers callees
  pub answered : AllByRecursion (FitsAnswers choices answers callees.takes) ns
  pub only : (others : Answers) → AnswersOfKinds others callees → AllByRecursion (GivesAnswers choices others callees.takes) ns → AllByRecursion (λ (n : FlatNode). AnswersAlike answers others callees.takes n.name) ns

-- So it is of nodes in turn, where the kinds of what nodes give have values.
abbrev pub MeaningLaw : Type 0
MeaningLaw =
    (types : List ObcType) (callees : Callees) (controls : Names (List KindData)) (choices : Choices) (ns : List FlatNode) → AreInTurn types callees controls [] ns → ChoicesOfKinds choices callees controls
    → ((f : List ℕ) → AllByRecursion HasSome (callees.gives f)) → HasOneMeaningUnder choices callees ns

-- Without controllable variables it is the one meaning that there is without choices.
abbrev pub UncontrolledLaw : Type 0
UncontrolledLaw =
    (callees : Callees) (choices : Choices) (ns : List FlatNode) → ChoicesOfKinds choices callees (λ f. []) → (one : HasOneMeaning callees ns) (under : HasOneMeaningUnder choices callees ns)
    → AllByRecursion (λ (n : FlatNode). AnswersAlike one.answers under.answers callees.takes n.name) ns
