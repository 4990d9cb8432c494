-- What is proved of circles of equations.
use Rattle.std.specs.Prelude.{ℕ, List}
use Rattle.hp_base.specs.declared.value.Value.{Value}
use Rattle.hp_tree.specs.declared.program.Item.{Item}
use Rattle.hp_tree.specs.Programs.{TypeDecl, Node}
use Rattle.hp_tree.specs.Instant.{Place}
use Rattle.hp_meaning.specs.Causal.Causality.{Ranked, IsRanked}
use Rattle.hp_meaning.specs.Causal.Clocked.{ClocksRight}
use Rattle.law_judged.specs.Named.Scoped.{EachNode}
use Rattle.law_equations.specs.Made.Making.{Known, sketch_node}
use Rattle.law_equations.specs.Made.Standing.{Knows}
use Rattle.law_equations.specs.Made.Laws.{NodeReady}
use Rattle.hp_complete.specs.Ordering.{IsCircular}
use Rattle.hp_complete.specs.Made.{HasCircle}

-- The equations that are made of a ready node whose places have ranks, and whose clocks are right, do not read each other in a circle.
abbrev pub NodeLaw : Type 0
NodeLaw =
    (types : List TypeDecl) (outputs : List ℕ → List (List ℕ)) (k : Known) (fill : Place → Value) (n : Node) → Knows types outputs k → NodeReady k fill n → Ranked n → ClocksRight n
    → IsCircular (sketch_node k n).eqns → ⊥

-- So it is with all nodes of a program.
abbrev pub NoCircleLaw : Type 0
NoCircleLaw =
    (types : List TypeDecl) (outputs : List ℕ → List (List ℕ)) (k : Known) (fills : List ℕ → Place → Value) (program : List Item) → Knows types outputs k → EachNode (λ (n : Node). NodeReady k (fills n.name) n) program
    → IsRanked program → EachNode ClocksRight program → HasCircle k program → ⊥
