-- The instance of each call, in a reaction with chosen values, is a reaction of its callee with chosen values.
-- Source: own; an instance of a node behaves as the node does over its own stream of inputs, as in Colaço, Pagano and Pouzet (EMSOFT 2005).
use Rattle.std.specs.Prelude.{◌≡◌, ℕ, IsTrue, List, [], ◌∷◌, ◌++◌, reverse, All, Some}
use Rattle.std.specs.List.{AllByRecursion}
use Rattle.hp_base.specs.declared.value.Value.{Value}
use Rattle.hp_tree.specs.declared.program.Item.{Item}
use Rattle.hp_tree.specs.Instant.{Fresh, Instance, Instant, Past}
use Rattle.hp_tree.specs.Meaning.{types_of, node_among}
use Rattle.hp_tree.specs.Operators.{is_there}
use Rattle.hp_tree.specs.Programs.{Node}
use Rattle.hp_tree.specs.Values.{AreOf}
use Rattle.hp_meaning.specs.Causal.Points.{Placed}
use Rattle.hp_meaning.specs.Contract.ChosenRuns.{own_past}
use Rattle.hp_meaning.specs.Contract.FreePlaces.{calls_of, instance_at}
use Rattle.law_games.specs.ReadyGames.Laws.{IsInOrder}
use Rattle.law_judged.specs.Named.Scoped.{EachNode}
use Rattle.law_choices.specs.Choosing.Choices.{Choices}
use Rattle.law_choices.specs.Runs.Chosen.{ChosenReaction}
use Rattle.law_choices.specs.Runs.Laws.{ChoosesValues}

-- A reaction of the node of a name over inputs of its types, in which each instance at every depth has the chosen values.
pub record ReactsChosen (choices : Choices) (program : List Item) (f : List ℕ) (past : Past) : Type 0 where
  pub node : Node
  pub is_node : node_among (reverse program) f ≡ Some node
  pub rows : List (List Value)
  pub typed : AllByRecursion (AreOf (types_of program) node.inputs) rows
  pub chosen : ChosenReaction choices program f rows past

-- The instance of a call that is there, with its own past, is such a reaction of the callee.
abbrev pub InstanceReacts : Choices → List Item → Past → Instant → Placed → Type 0
InstanceReacts choices program past now c =
    IsTrue (is_there (instance_at c now (Fresh ∷ []))) → ReactsChosen choices program c.point.name (instance_at c now ∷ own_past (c.place ++ (Instance ∷ [])) past now)

-- So is that of each call of a node, at the newest instant of such a reaction.
abbrev pub InstancesLaw : Type 0
InstancesLaw =
    (program after : List Item) (ranks : List (List ℕ)) → IsInOrder program after ranks → (choices : Choices) → EachNode (ChoosesValues (types_of after) choices) after
    → (f : List ℕ) (n : Node) (rows : List (List Value)) (past : Past) (now : Instant) → node_among (reverse after) f ≡ Some n → AllByRecursion (AreOf (types_of after) n.inputs) rows → ChosenReaction choices after f rows (now ∷ past)
    → All (InstanceReacts choices after past now) (calls_of n)
