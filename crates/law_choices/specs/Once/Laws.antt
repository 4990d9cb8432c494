-- Over the same inputs there are no two runs of chosen values.
-- Source: own. In Delaval, Marchand and Rutten (LCTES 2010) the controller is a function, so the controlled program is deterministic; here it is enough that a rule leaves one choice at most.
use Rattle.std.specs.Prelude.{ℕ, ◌≡◌, List, [], Some, Contains, reverse}
use Rattle.hp_base.specs.declared.value.Value.{Value}
use Rattle.hp_tree.specs.declared.program.Item.{Item}
use Rattle.hp_tree.specs.Programs.{Node}
use Rattle.hp_tree.specs.Instant.{Place, Instant, Past}
use Rattle.hp_tree.specs.Meaning.{node_among, controls_of}
use Rattle.hp_meaning.specs.Causal.Causality.{IsRanked}
use Rattle.hp_meaning.specs.Causal.OneReaction.{SamePasts}
use Rattle.hp_meaning.specs.Causal.Points.{Placed}
use Rattle.hp_meaning.specs.Contract.Forgetting.{ContractsCallNothing}
use Rattle.hp_meaning.specs.Contract.FreePlaces.{IsEarly, calls_of}
use Rattle.hp_meaning.specs.Contract.Game.{Choice, IsChosen}
use Rattle.hp_meaning.specs.Contract.ChosenRuns.{ChoiceRule, IsChosenRun}
use Rattle.hp_meaning.specs.Contract.SteeredRuns.{Strategy, IsStrategy, Follows, AllClocksRight, ReactsBy}
use Rattle.law_games.specs.ReadyGames.Laws.{IsInOrder}

-- A rule is determined where it leaves at most one choice to what is known before: the node, its own abstract history, its inputs, and the values at its early places.
abbrev pub IsDetermined : List Item → ChoiceRule → Type 0
IsDetermined program rule =
    (n : Node) (history : Past) (inputs : List Value) (early other : Instant) (c d : Choice)
    → ((p : Place) → IsEarly program n p → early p ≡ other p)
    → rule n history inputs early c → rule n history inputs other d → c ≡ d

-- Two reactions over the same inputs, in which each instance at every depth keeps the rule, agree at every place of every instant.
abbrev pub OneReactionUnder : List Item → ChoiceRule → Type 0
OneReactionUnder program rule = (f : List ℕ) (inputs : List (List Value)) (past other : Past) → ReactsBy program rule f inputs past → ReactsBy program rule f inputs other → SamePasts past other

-- Two runs over the same inputs give the same outputs.
abbrev pub OneRunAtMost : List Item → Type 0
OneRunAtMost program = (f : List ℕ) (inputs outputs others : List (List Value)) → IsChosenRun program f inputs outputs → IsChosenRun program f inputs others → outputs ≡ others

-- ---- the laws

-- The choice that is taken is determined, and so is what a strategy gives.
abbrev pub DeterminedLaw : Type 0
DeterminedLaw = (program : List Item) → IsDetermined program (IsChosen program)

abbrev pub FollowedLaw : Type 0
FollowedLaw = (program : List Item) (s : Strategy) → IsStrategy program s → IsDetermined program (Follows s)

-- So there are no two reactions in which each instance has the values that are chosen,
abbrev pub OneChosenReactionLaw : Type 0
OneChosenReactionLaw = (program : List Item) → IsRanked program → AllClocksRight program → ContractsCallNothing program → OneReactionUnder program (IsChosen program)

-- and no two runs.
abbrev pub OneChosenRunLaw : Type 0
OneChosenRunLaw = (program : List Item) → IsRanked program → AllClocksRight program → ContractsCallNothing program → OneRunAtMost program

-- Each ready program with ranks, as that of a text which is judged, arranged and ordered, is such a program.
abbrev pub ReadyReactionLaw : Type 0
ReadyReactionLaw = (program after : List Item) (ranks : List (List ℕ)) → IsInOrder program after ranks → OneReactionUnder after (IsChosen after)

abbrev pub ReadyRunLaw : Type 0
ReadyRunLaw = (program after : List Item) (ranks : List (List ℕ)) → IsInOrder program after ranks → OneRunAtMost after

-- ---- a program that meets the premises

-- The node of this name calls a node that has controllable variables.
pub record CallsControlled (program : List Item) (f : List ℕ) : Type 0 where
  pub node : Node
  pub is_node : node_among (reverse program) f ≡ Some node
  pub call : Placed
  pub is_call : Contains (calls_of node) call
  pub callee : Node
  pub is_callee : node_among (reverse program) call.point.name ≡ Some callee
  pub has_controls : controls_of callee.contract ≡ [] → ⊥

-- Some such node has a run.
abbrev pub SomeChosenRunLaw : Type 0
SomeChosenRunLaw =
    (program : List Item) × (f : List ℕ) × (inputs outputs : List (List Value))
    × IsRanked program × AllClocksRight program × ContractsCallNothing program
    × CallsControlled program f × IsChosenRun program f inputs outputs
