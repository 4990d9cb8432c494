-- What the clocked equations of a node stand for.
use Rattle.std.specs.Prelude.{ℕ, List}
use Rattle.hp_base.specs.declared.value.Value.{Value}
use Rattle.hp_tree.specs.Programs.{TypeDecl, Node}
use Rattle.hp_tree.specs.Instant.{Place}
use Rattle.hp_flat.specs.Nodes.{FlatNode}
use Rattle.law_equations.specs.Made.Making.{Known}
use Rattle.law_equations.specs.Made.Standing.{Knows}
use Rattle.law_equations.specs.Made.Laws.{NodeReady, Stands}
use Rattle.hp_complete.specs.Made.{IsMadeOf}

-- Each variable of a node that is made of a ready one stands for a flat name, such that its equations stand for those of these names, whatever their places are.
abbrev pub StandsLaw : Type 0
StandsLaw =
    (types : List TypeDecl) (outputs : List ℕ → List (List ℕ)) (k : Known) (fill : Place → Value) (n : Node) (f : FlatNode) → Knows types outputs k → NodeReady k fill n → IsMadeOf k n f
    → Stands types outputs k fill n f
