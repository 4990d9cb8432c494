-- The clocked equations that are made of a node define each variable once wherever it is there.
use Rattle.std.specs.Prelude.{ℕ, List, reverse}
use Rattle.std.specs.List.{AllByRecursion}
use Rattle.hp_tree.specs.declared.program.Item.{Item}
use Rattle.hp_tree.specs.Programs.{TypeDecl, Node}
use Rattle.law_judged.specs.Typed.Scopes.{Scope}
use Rattle.law_judged.specs.Named.Scoped.{EachNode}
use Rattle.hp_flat.specs.Nodes.{FlatNode}
use Rattle.law_equations.specs.Made.Making.{Known, sketch_node}
use Rattle.law_equations.specs.Made.Blocks.{IsPlain}
use Rattle.law_equations.specs.Made.Standing.{Knows}
use Rattle.hp_complete.specs.Made.{IsMadeOf, AreMadeOf}
use Rattle.law_wellmade.specs.Timely.Tested.{ConstructorsDiffer, NodeTested, AreTested}
use Rattle.law_equations.specs.Shaped.Shaped.{DefineApart}

-- No automaton is left in the node, its names are defined once, and its tests are typed. Then two equations that define one variable are the
-- same, or their clocks part: so it is of the equations as they are made, and as they stand in their places.
abbrev pub NodeLaw : Type 0
NodeLaw =
    (types : List TypeDecl) (outputs : List ℕ → List (List ℕ)) (k : Known) (s : Scope) (n : Node) → Knows types outputs k → ConstructorsDiffer types → IsPlain n.body → NodeTested types s n
    → DefineApart (sketch_node k n).eqns × ((f : FlatNode) → IsMadeOf k n f → DefineApart f.eqns)

-- So it is of each node of a program.
abbrev pub ProgramLaw : Type 0
ProgramLaw =
    (types : List TypeDecl) (outputs : List ℕ → List (List ℕ)) (k : Known) (program : List Item) (fs : List FlatNode) → Knows types outputs k → ConstructorsDiffer types
    → EachNode (λ (n : Node). IsPlain n.body) program → AreTested types (reverse program) → AreMadeOf k program fs → AllByRecursion (λ (f : FlatNode). DefineApart f.eqns) fs
