-- What is proved of answers.
use Rattle.std.specs.Prelude.{◌≡◌, ℕ, ◌+◌, List, [], ◌∷◌, ◌++◌, length, map, reverse, IsTrue, IsFalse}
use Rattle.std.specs.List.{AllByRecursion}
use Rattle.hp_base.specs.Kinds.{KindData, AreOfKinds}
use Rattle.hp_base.specs.declared.value.Value.{Value}
use Rattle.hp_tree.specs.declared.program.Item.{Item}
use Rattle.hp_tree.specs.declared.program.Item.TheVariants.{NodeItem}
use Rattle.hp_tree.specs.Programs.{Node}
use Rattle.hp_tree.specs.Operators.{filled}
use Rattle.hp_tree.specs.Instant.{Place, Past}
use Rattle.hp_tree.specs.Reaction as reaction
use Rattle.hp_tree.specs.Reaction.{Each}
use Rattle.hp_tree.specs.Meaning.{types_of, nodes, names_of, controls_of, meaning}
use Rattle.hp_meaning.specs.Causal.Causality.{IsRanked}
use Rattle.hp_meaning.specs.Causal.OneReaction.{ReactionOf}
use Rattle.hp_meaning.specs.Causal.Runs.{NoControls}
use Rattle.hp_obc.specs.Steps.{Names}
use Rattle.hp_flat.specs.Nodes.{FlatNode}
use Rattle.law_equations.specs.Meaning.Fitting.{is_there, Fits, IsThere as IsPresent}
use Rattle.law_equations.specs.Meaning.Reactions.{Answers, Reaction, outputs_at}
use Rattle.law_equations.specs.Flattened.Flatten.{FlatName, Input, flatten}
use Rattle.law_equations.specs.Flattened.Flat.{Flat, Now}
use Rattle.law_equations.specs.Flattened.Timely.{Along, Lowered}
use Rattle.law_equations.specs.Flattened.Lifted.{IsFill, in_body, lifts, NodeTimely}
use Rattle.law_equations.specs.Flattened.Behaves.{Behaves, EachCallIn}
use Rattle.law_equations.specs.Flattened.Numbered.{AreEquationsFor, IsTolds, does_of, numbered}
use Rattle.law_equations.specs.Made.Making.{Known, numbers_from, sketch_node}
use Rattle.law_equations.specs.Made.Standing.{Knows}
use Rattle.law_equations.specs.Made.Blocks.{DeclaredOnce}
use Rattle.law_equations.specs.Made.Laws.{unplaced, body_name, NodeReady}
use Rattle.law_equations.specs.Followed.Programs.{Answered, all_answers}
use Rattle.law_equations.specs.Meaning.Scheduling.{IsRanked as IsRankedByPlaces}
use Rattle.law_equations.specs.Followed.Programs.{CallsOnly}
use Rattle.law_equations.specs.Answered.Short.{ConstantsShort, InstantShort, AnswersShort, AllAnswerShort}
use Rattle.law_equations.specs.Answered.Fitting.{FlatFits, DefineSome}
use Rattle.law_equations.specs.Answered.Answering.{given_each, filled_nodes, Answering, has_node, AreApart, IsCalled, first_values}

-- The nodes of a ranked program answer.
abbrev pub SomeAnswersLaw : Type 0
SomeAnswersLaw = (program : List Item) (fills : List ℕ → Place → Value) → IsRanked program → (answers : Answers) × Answering program fills answers

-- Each of them behaves so wherever it is called: where it is among those before a caller, and none behind it has its name.
abbrev pub BehaveLaw : Type 0
BehaveLaw =
    (program : List Item) (fills : List ℕ → Place → Value) (answers : Answers) → IsRanked program → NoControls program → Answering program fills answers → (later earlier : List Item) → reverse program ≡ later ++ earlier
    → (f : List ℕ) → IsTrue (has_node earlier f) → IsFalse (has_node later f) → Behaves (nodes (types_of program) filled earlier) (does_of answers) (IsFill (fills f)) f

-- A node of a program, and clocked equations that stand for its flat names: its inputs and the equations' outputs are those of the node, and automata are gone.
pub record IsFlat (program : List Item) (fills : List ℕ → Place → Value) (later earlier : List Item) (n : Node) (means : ℕ → FlatName) (flat : FlatNode) : Type 0 where
  pub stands : reverse program ≡ later ++ NodeItem n ∷ earlier
  pub lowered : Lowered n.body
  pub calls : EachCallIn (IsCalled earlier fills (fills n.name)) n.body in_body
  pub inputs_differ : DeclaredOnce n.inputs
  pub equations : AreEquationsFor means (flatten (types_of program) (nodes (types_of program) filled earlier).outputs (fills n.name) n) (names_of n.inputs) (λ f. length ((filled_nodes program).outputs f)) flat
  pub outputs : map means flat.outputs ≡ map body_name (names_of n.outputs)

-- What is asked of a reaction of a node: each value is there exactly as its clock is, and what is tested is told.
pub record IsThere (program : List Item) (fills : List ℕ → Place → Value) (earlier : List Item) (n : Node) (means : ℕ → FlatName) (inputs : List (List Value)) (past : Past) : Type 0 where
  pub timely : NodeTimely (types_of program) (nodes (types_of program) filled earlier).outputs n (lifts n inputs (given_each (fills n.name) inputs) past)
  pub told : Along (λ G i. IsTolds means (flatten (types_of program) (nodes (types_of program) filled earlier).outputs (fills n.name) n) i) (lifts n inputs (given_each (fills n.name) inputs) past)

-- The outputs of a node at its newest instant are those of the equations.
abbrev pub GivesOutputs : FlatNode → List Value → List (ℕ → Value) → Type 0
GivesOutputs flat outputs [] = ⊥
GivesOutputs flat outputs (now ∷ past) = outputs ≡ outputs_at flat now

-- So each reaction of a node is, read by the variables that stand for its flat names, a reaction of the clocked equations with the same answers.
abbrev pub NodeAnswersLaw : Type 0
NodeAnswersLaw =
    (program : List Item) (fills : List ℕ → Place → Value) (answers : Answers) → IsRanked program → NoControls program → AreApart (reverse program) → Answering program fills answers
    → (later earlier : List Item) (n : Node) (means : ℕ → FlatName) (flat : FlatNode) → IsFlat program fills later earlier n means flat
    → (args : List Value) (before : List (List Value)) (past : Past) → Each (λ vs. length vs ≡ length n.inputs) (args ∷ before)
    → ReactionOf (meaning filled program n.name) (args ∷ before) (given_each (fills n.name) (args ∷ before)) past → IsThere program fills earlier n means (args ∷ before) past
    → Reaction answers flat (args ∷ before) (map (numbered means) (lifts n (args ∷ before) (given_each (fills n.name) (args ∷ before)) past))
    × GivesOutputs flat (answers n.name args before) (map (numbered means) (lifts n (args ∷ before) (given_each (fills n.name) (args ∷ before)) past))

-- A node of a program without automata, and the clocked equations that are made of it.
pub record IsMade (program : List Item) (fills : List ℕ → Place → Value) (later earlier : List Item) (k : Known) (n : Node) (flat : FlatNode) : Type 0 where
  pub stands : reverse program ≡ later ++ NodeItem n ∷ earlier
  pub calls : EachCallIn (IsCalled earlier fills (fills n.name)) n.body in_body
  pub ready : NodeReady k (fills n.name) n
  pub inputs : flat.inputs ≡ length n.inputs + length (controls_of n.contract)
  pub outputs : flat.outputs ≡ numbers_from (length n.inputs + length (controls_of n.contract)) n.outputs
  pub equations : map unplaced flat.eqns ≡ map unplaced (sketch_node k n).eqns

-- They stand for its flat names.
abbrev pub MadeFlatLaw : Type 0
MadeFlatLaw =
    (program : List Item) (fills : List ℕ → Place → Value) (k : Known) → NoControls program → AreApart (reverse program) → Knows (types_of program) (filled_nodes program).outputs k
    → (later earlier : List Item) (n : Node) (flat : FlatNode) → IsMade program fills later earlier k n flat → (means : ℕ → FlatName) × IsFlat program fills later earlier n means flat

-- Clocked equations that stand for flat names fit at an instant where these do, each defines something, inputs and outputs are there, and all integers are of 32 bits.
abbrev pub FitsLaw : Type 0
FitsLaw =
    (takes : Names (List KindData)) (means : ℕ → FlatName) (flat : Flat FlatName) (names : List (List ℕ)) (count : List ℕ → ℕ) (n : FlatNode) (now : Now FlatName)
    → AreEquationsFor means flat names count n → IsTolds means flat now → FlatFits takes means flat now → DefineSome n.eqns → AllByRecursion (λ x. IsTrue (is_there (now (Input x)))) names
    → AllByRecursion (IsPresent (numbered means now)) n.outputs → ConstantsShort n.eqns → InstantShort (numbered means now) → Fits takes n (numbered means now)

-- What is asked of a reaction of a node besides: its equations over flat names fit at each instant, and its outputs are there.
pub record IsFitting (program : List Item) (fills : List ℕ → Place → Value) (earlier : List Item) (n : Node) (means : ℕ → FlatName) (takes : Names (List KindData)) (inputs : List (List Value)) (past : Past) : Type 0 where
  pub there : IsThere program fills earlier n means inputs past
  pub fits : Along (λ G i. FlatFits takes means (flatten (types_of program) (nodes (types_of program) filled earlier).outputs (fills n.name) n) i) (lifts n inputs (given_each (fills n.name) inputs) past)
  pub outputs : Along (λ G i. AllByRecursion (λ o. IsTrue (is_there (i (body_name o)))) (names_of n.outputs)) (lifts n inputs (given_each (fills n.name) inputs) past)

-- So it is of each reaction of a node over inputs of its kinds.
abbrev pub AllFitting : List Item → (List ℕ → Place → Value) → List Item → Node → (ℕ → FlatName) → Names (List KindData) → Type 0
AllFitting program fills earlier n means takes =
    (inputs : List (List Value)) (past : Past) → AllByRecursion (AreOfKinds (takes n.name)) inputs → ReactionOf (meaning filled program n.name) inputs (given_each (fills n.name) inputs) past → IsFitting program fills earlier n means takes inputs past

-- What is asked of its clocked equations: they have ranks, call nodes that answer with integers of 32 bits, and define something each; and their constants are of 32 bits.
pub record IsEquipped (answers : Answers) (takes : Names (List KindData)) (flat : FlatNode) : Type 0 where
  pub ranked : IsRankedByPlaces flat.eqns
  pub called : List (List ℕ)
  pub calls : CallsOnly called flat.eqns
  pub answer : AllAnswerShort answers takes called
  pub constants : ConstantsShort flat.eqns
  pub some : DefineSome flat.eqns

-- Then the node answers as its clocked equations do, with integers of 32 bits.
abbrev pub AnsweredLaw : Type 0
AnsweredLaw =
    (program : List Item) (fills : List ℕ → Place → Value) (answers : Answers) → IsRanked program → NoControls program → AreApart (reverse program) → Answering program fills answers
    → (takes : Names (List KindData)) (later earlier : List Item) (n : Node) (means : ℕ → FlatName) (flat : FlatNode) → IsFlat program fills later earlier n means flat → flat.name ≡ n.name
    → length (takes n.name) ≡ length n.inputs → IsEquipped answers takes flat → AllFitting program fills earlier n means takes → Answered answers takes flat × AnswersShort answers takes n.name

-- What a node answers on all inputs are the outputs of its reaction, newest first.
abbrev pub AllAnswersLaw : Type 0
AllAnswersLaw =
    (program : List Item) (fills : List ℕ → Place → Value) (answers : Answers) → IsRanked program → NoControls program → Answering program fills answers
    → (f : List ℕ) (inputs : List (List Value)) (past : Past) → ReactionOf (meaning filled program f) inputs (given_each (fills f) inputs) past → map (reaction.outputs_at program f) past ≡ all_answers (answers f) inputs

-- Where these are the first values of the filled form, each call of a node before it is given those of its node.
abbrev pub FirstsLaw : Type 0
FirstsLaw =
    (program : List Item) → AreApart (reverse program) → (later earlier : List Item) (n : Node) → reverse program ≡ later ++ NodeItem n ∷ earlier → EachCallIn (λ f here. IsTrue (has_node earlier f)) n.body in_body
    → EachCallIn (IsCalled earlier (first_values program) (first_values program n.name)) n.body in_body
