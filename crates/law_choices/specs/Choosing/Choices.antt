-- Clocked equations whose controllable variables have chosen values.
-- Source: own.
use Rattle.std.specs.Prelude.{◌≡◌, ℕ, List, ◌++◌}
use Rattle.std.specs.List.{AllByRecursion}
use Rattle.hp_base.specs.Kinds.{KindData, AreOfKinds}
use Rattle.hp_base.specs.declared.value.Value.{Value}
use Rattle.hp_obc.specs.Machines.{ObcType}
use Rattle.hp_obc.specs.Steps.{Names}
use Rattle.hp_flat.specs.Nodes.{FlatNode}
use Rattle.law_equations.specs.Meaning.Fitting.{Fits}
use Rattle.law_equations.specs.Meaning.Instants.{Instant}
use Rattle.law_equations.specs.Meaning.Kinding.{Callees, IsPossible, IsWellMade, AnswersOfKinds, kinds_at}
use Rattle.law_equations.specs.Meaning.Reactions.{Answers, Reaction, inputs_of}
use Rattle.law_equations.specs.Followed.Programs.{all_answers}

-- How values are chosen for the controllable variables of one node: by the inputs of an instance now, and those that it had before, since it began anew, newest first.
abbrev pub Choice : Type 0
Choice = List Value → List (List Value) → List Value

-- so for each node, by its name; the instances of one node choose by one function
abbrev pub Choices : Type 0
Choices = Names Choice

-- the inputs of each instant, newest first, with what is chosen there behind them
abbrev pub with_chosen : Choice → List (List Value) → List (List Value)
with_chosen choice inputs = all_answers (λ args earlier. args ++ choice args earlier) inputs

-- Instants, newest first, are a reaction of a node over what calls give it, and its controllable variables have the chosen values.
abbrev pub ReactionUnder : Choices → Answers → FlatNode → List (List Value) → List Instant → Type 0
ReactionUnder choices answers n inputs instants = Reaction answers n (with_chosen (choices n.name) inputs) instants

-- On inputs of the kinds of a node, values of the kinds of its controllable variables are chosen.
abbrev pub ChoicesOfKinds : Choices → Callees → Names (List KindData) → Type 0
ChoicesOfKinds choices callees controls =
    (f : List ℕ) (args : List Value) (earlier : List (List Value)) → AreOfKinds (callees.takes f) args → AllByRecursion (AreOfKinds (callees.takes f)) earlier → AreOfKinds (controls f) (choices f args earlier)

-- What is said of a node is what calls give it and what it gives; its controllable variables stand behind what calls give.
pub record IsSteered (types : List ObcType) (callees : Callees) (controls : Names (List KindData)) (n : FlatNode) : Type 0 where
  pub takes : callees.takes n.name ++ controls n.name ≡ kinds_at types n (inputs_of n)
  pub gives : callees.gives n.name ≡ kinds_at types n n.outputs

-- There is exactly one reaction with the chosen values; its instants are possible, and clocks fit.
pub record OneReactionUnder (types : List ObcType) (callees : Callees) (choices : Choices) (answers : Answers) (n : FlatNode) (inputs : List (List Value)) : Type 0 where
  pub instants : List Instant
  pub reaction : ReactionUnder choices answers n inputs instants
  pub possible : AllByRecursion (IsPossible types n) instants
  pub fit : AllByRecursion (Fits callees.takes n) instants
  pub only : (others : List Instant) → ReactionUnder choices answers n inputs others → others ≡ instants

-- So it is of each node that is well made, over inputs of its kinds.
abbrev pub OneReactionLaw : Type 0
OneReactionLaw =
    (types : List ObcType) (callees : Callees) (controls : Names (List KindData)) (choices : Choices) (answers : Answers) (n : FlatNode)
    → IsWellMade types callees n → IsSteered types callees controls n → ChoicesOfKinds choices callees controls → AnswersOfKinds answers callees
    → (inputs : List (List Value)) → AllByRecursion (AreOfKinds (callees.takes n.name)) inputs → OneReactionUnder types callees choices answers n inputs
