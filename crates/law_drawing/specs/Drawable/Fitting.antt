-- In a ready program what is asked of drawn nodes besides is so too: the tables of the program tell the nodes that a node may call, and calls fit the nodes that they name.
-- Source: own.
use Rattle.std.specs.Prelude.{ℕ, ◌≡◌, List, Some}
use Rattle.hp_tree.specs.declared.program.Item.{Item}
use Rattle.hp_tree.specs.Programs.{Node}
use Rattle.hp_tree.specs.Meaning.{node_among}
use Rattle.law_games.specs.ReadyGames.Laws.{Stands, IsInOrder}
use Rattle.hp_drawing.specs.Told.{told_of}
use Rattle.law_drawing.specs.Steered.Nodes.{NodeFits}

-- The tables of a ready program have the nodes that stand behind a node.
abbrev pub ToldLaw : Type 0
ToldLaw =
    (program after : List Item) (ranks : List (List ℕ)) → IsInOrder program after ranks → (earlier : List Item) (n : Node) → Stands after earlier n
    → (f : List ℕ) (m : Node) → node_among earlier f ≡ Some m → (told_of after).nodes f ≡ Some m

-- The calls of each of its nodes fit.
abbrev pub FitsLaw : Type 0
FitsLaw = (program after : List Item) (ranks : List (List ℕ)) → IsInOrder program after ranks → (earlier : List Item) (n : Node) → Stands after earlier n → NodeFits (told_of after) n
