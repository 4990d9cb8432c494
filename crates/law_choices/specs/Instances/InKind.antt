-- The instance of each call, in a reaction over inputs of their kinds, is given inputs of their kinds: integers of 32 bits.
-- Source: own; an instance of a node behaves as the node does over its own stream of inputs, as in Colaço, Pagano and Pouzet (EMSOFT 2005).
use Rattle.std.specs.Prelude.{◌≡◌, ℕ, IsTrue, List, [], ◌∷◌, ◌++◌, reverse, All, Some}
use Rattle.std.specs.List.{AllByRecursion}
use Rattle.hp_base.specs.Kinds.{AreOfKinds}
use Rattle.hp_base.specs.declared.value.Value.{Value}
use Rattle.hp_tree.specs.declared.program.Item.{Item}
use Rattle.hp_tree.specs.Instant.{Fresh, Instance, Instant, Past}
use Rattle.hp_tree.specs.Meaning.{types_of, node_among}
use Rattle.hp_tree.specs.Operators.{is_there}
use Rattle.hp_tree.specs.Programs.{Node}
use Rattle.hp_meaning.specs.Causal.Points.{Placed}
use Rattle.hp_meaning.specs.Contract.ChosenRuns.{own_past}
use Rattle.hp_meaning.specs.Contract.FreePlaces.{calls_of, instance_at}
use Rattle.law_games.specs.ReadyGames.Laws.{IsInOrder}
use Rattle.law_judged.specs.Named.Scoped.{EachNode}
use Rattle.law_wellmade.specs.Timely.Kinds.{kinds_of_decls}
use Rattle.law_choices.specs.Answered.Programs.{AlwaysOfKinds}
use Rattle.law_choices.specs.Choosing.Choices.{Choices}
use Rattle.law_choices.specs.Instances.Integers.{WritesShort}
use Rattle.law_choices.specs.Runs.Chosen.{ChosenReaction}
use Rattle.law_choices.specs.Runs.Laws.{ChoosesValues}

-- A reaction of the node of a name over inputs of its kinds, in which each instance at every depth has the chosen values.
pub record ReactsInKind (choices : Choices) (program : List Item) (f : List ℕ) (past : Past) : Type 0 where
  pub node : Node
  pub is_node : node_among (reverse program) f ≡ Some node
  pub rows : List (List Value)
  pub kinds : AllByRecursion (AreOfKinds (kinds_of_decls (types_of program) node.inputs)) rows
  pub chosen : ChosenReaction choices program f rows past

-- The instance of a call that is there, with its own past, is such a reaction of the callee.
abbrev pub InstanceInKind : Choices → List Item → Past → Instant → Placed → Type 0
InstanceInKind choices program past now c =
    IsTrue (is_there (instance_at c now (Fresh ∷ []))) → ReactsInKind choices program c.point.name (instance_at c now ∷ own_past (c.place ++ (Instance ∷ [])) past now)

-- So is that of each call of a node, at the newest instant of such a reaction, where the program writes integers of 32 bits, and values of their kinds are chosen.
abbrev pub InKindLaw : Type 0
InKindLaw =
    (program after : List Item) (ranks : List (List ℕ)) → IsInOrder program after ranks → EachNode WritesShort after → (choices : Choices) → EachNode (ChoosesValues (types_of after) choices) after → AlwaysOfKinds after choices
    → (f : List ℕ) (n : Node) (rows : List (List Value)) (past : Past) (now : Instant) → node_among (reverse after) f ≡ Some n → AllByRecursion (AreOfKinds (kinds_of_decls (types_of after) n.inputs)) rows
    → ChosenReaction choices after f rows (now ∷ past) → All (InstanceInKind choices after past now) (calls_of n)
