-- Accepted programs can be drawn: the nodes of a ready program meet what is asked of nodes that are drawn.
-- Source: own.
use Rattle.std.specs.Prelude.{ℕ, List}
use Rattle.hp_tree.specs.declared.program.Item.{Item}
use Rattle.hp_tree.specs.Programs.{Node}
use Rattle.hp_tree.specs.Meaning.{types_of}
use Rattle.law_values.specs.Valued.Values.{scope_behind}
use Rattle.law_games.specs.ReadyGames.Laws.{Stands, IsInOrder}
use Rattle.hp_drawing.specs.Told.{told_of}
use Rattle.law_drawing.specs.Carrying.Typing.{AreNumbered}
use Rattle.law_drawing.specs.Carrying.Drawable.{NodeDrawable}
use Rattle.law_drawing.specs.Carrying.Nodes.{EarlierDrawable}

-- A node can be drawn, and so can those that it may call; constructors have the numbers of their values.
pub record IsDrawable (after earlier : List Item) (n : Node) : Type 0 where
  pub node : NodeDrawable (scope_behind earlier) n
  pub callable : EarlierDrawable (types_of after) (told_of after) earlier
  pub numbered : AreNumbered (types_of after) (told_of after) (scope_behind earlier)

-- So it is with each node of a ready program.
abbrev pub DrawableLaw : Type 0
DrawableLaw = (program after : List Item) (ranks : List (List ℕ)) → IsInOrder program after ranks → (earlier : List Item) (n : Node) → Stands after earlier n → IsDrawable after earlier n
