-- The names of a node's body in its clocked equations: each has a variable, with the values of the name.
-- Source: own.
use Rattle.std.specs.Prelude.{◌≡◌, ℕ, Bool, true, ◌||◌, List, [], ◌∷◌, map, reverse, Option, Some}
use Rattle.hp_base.specs.declared.value.Value.{Value}
use Rattle.hp_tree.specs.declared.program.Item.{Item}
use Rattle.hp_tree.specs.Programs.{Node}
use Rattle.hp_tree.specs.Values.{AreOf}
use Rattle.hp_tree.specs.Operators.{filled}
use Rattle.hp_tree.specs.Instant as tree
use Rattle.hp_tree.specs.Instant.{Named, Body as BodyOf, Place, Past}
use Rattle.hp_tree.specs.Meaning.{declares, types_of}
use Rattle.hp_tree.specs.Reaction.{Each}
use Rattle.hp_meaning.specs.Causal.Causality.{IsRanked}
use Rattle.hp_meaning.specs.Causal.OneReaction.{ReactionOf}
use Rattle.law_judged.specs.Named.Scoped.{EachNode}
use Rattle.law_values.specs.Valued.Values.{Classing, AreAccepted}
use Rattle.hp_flat.specs.Nodes.{FlatNode}
use Rattle.law_equations.specs.Meaning.Instants.{Instant}
use Rattle.law_equations.specs.Meaning.Reactions.{Answers}
use Rattle.law_equations.specs.Made.Making.{Known, Sight, Body, base_site, unknown, over, sketch_block}
use Rattle.law_equations.specs.Made.Blocks.{locals_of}
use Rattle.law_equations.specs.Made.Standing.{Knows}
use Rattle.law_equations.specs.Made.Laws.{around_body}
use Rattle.law_equations.specs.Answered.Answering.{given_each, filled_nodes, AreApart}
use Rattle.law_equations.specs.Answered.Laws.{IsMade}
use Rattle.law_wellmade.specs.Timely.Laws.{FillsFit}
use Rattle.law_wellmade.specs.Timely.Tested.{ConstructorsDiffer, AreTested}
use Rattle.law_choices.specs.Choosing.Choices.{Choices, ReactionUnder}
use Rattle.law_choices.specs.Runs.Chosen.{chosen_meaning}
use Rattle.law_choices.specs.Runs.Laws.{ChoosesValues}
use Rattle.law_choices.specs.Flat.Answering.{AnsweringUnder, ControlsDiffer}

-- ---- names and their variables

-- The names of a node's body: the outputs, and what its outermost block declares.
abbrev pub is_body_name : Node → List ℕ → Bool
is_body_name n x = declares n.outputs x || declares (locals_of n.body) x

-- what names stand for in the body, where clocked equations are made of a node
abbrev pub body_sight : Known → Node → Sight
body_sight k n = let around = around_body k n in over (sketch_block k Body (over around.0 unknown) base_site n.body around.1).0 (over around.0 unknown)

-- the variable of a name in them
abbrev pub variable_of : Known → Node → List ℕ → Option ℕ
variable_of k n x = (body_sight k n x).value

-- ---- values, newest first

-- those of a name of the body
abbrev pub values_of : List ℕ → Past → List Value
values_of x past = map (λ (i : tree.Instant). i (BodyOf ∷ Named x ∷ [])) past

-- those of a variable
abbrev pub values_at : ℕ → List Instant → List Value
values_at v instants = map (λ (i : Instant). i v) instants

-- A name has a variable, and this has the values of the name.
pub record HasVariable (k : Known) (n : Node) (past : Past) (instants : List Instant) (x : List ℕ) : Type 0 where
  pub variable : ℕ
  pub is_its : variable_of k n x ≡ Some variable
  pub values : values_at variable instants ≡ values_of x past

-- ---- reactions

-- Clocked equations have a reaction with the chosen values in which the variable of each name of the body has the values that the name has in some instants of the node.
pub record ReadsNames (choices : Choices) (answers : Answers) (k : Known) (n : Node) (flat : FlatNode) (inputs : List (List Value)) (past : Past) : Type 0 where
  pub instants : List Instant
  pub reaction : ReactionUnder choices answers flat inputs instants
  pub names : (x : List ℕ) → is_body_name n x ≡ true → HasVariable k n past instants x

-- In an accepted program without automata, whose nodes choose values of the types, the clocked equations that are made of a node read so each reaction of its filled form under the choice, over inputs of the types.
abbrev pub NamesLaw : Type 0
NamesLaw =
    (choices : Choices) (program : List Item) (class : Classing) (fills : List ℕ → Place → Value) (k : Known) → AreAccepted (types_of program) class (reverse program) → IsRanked program → AreApart (reverse program)
    → FillsFit program fills → ConstructorsDiffer (types_of program) → AreTested (types_of program) (reverse program) → Knows (types_of program) (filled_nodes program).outputs k
    → EachNode (ChoosesValues (types_of program) choices) (reverse program) → (answers : Answers) → AnsweringUnder choices program fills answers
    → (later earlier : List Item) (n : Node) (flat : FlatNode) → IsMade program fills later earlier k n flat → flat.name ≡ n.name → ControlsDiffer n
    → (inputs : List (List Value)) (past : Past) → Each (AreOf (types_of program) n.inputs) inputs → ReactionOf (chosen_meaning choices filled program n.name) inputs (given_each (fills n.name) inputs) past
    → ReadsNames choices answers k n flat inputs past
