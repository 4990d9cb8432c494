-- At no instant do two clocked equations that are there define one variable.
-- Source: own.
use Rattle.std.specs.Prelude.{◌≡◌, ⊤, ℕ, true, List, [], ◌∷◌, reverse}
use Rattle.std.specs.List.{AllByRecursion}
use Rattle.hp_tree.specs.declared.program.Item.{Item}
use Rattle.hp_tree.specs.Programs.{TypeDecl, Node}
use Rattle.law_judged.specs.Named.Scoped.{EachNode}
use Rattle.hp_flat.specs.Equations.{FlatEqn}
use Rattle.hp_flat.specs.Nodes.{FlatNode}
use Rattle.law_equations.specs.Meaning.Instants.{Instant}
use Rattle.law_equations.specs.Meaning.Reactions.{has}
use Rattle.law_equations.specs.Meaning.Solving.{IsExclusive}
use Rattle.law_equations.specs.Shaped.Shaped.{Part}
use Rattle.law_equations.specs.Made.Making.{Known}
use Rattle.law_equations.specs.Made.Blocks.{IsPlain}
use Rattle.law_equations.specs.Made.Standing.{Knows}
use Rattle.hp_complete.specs.Made.{AreMadeOf}
use Rattle.law_wellmade.specs.Timely.Tested.{ConstructorsDiffer, AreTested}

-- where two equations define one variable, their clocks part
abbrev pub Differ : FlatEqn → FlatEqn → Type 0
Differ d e = (x : ℕ) → has d.targets x ≡ true → has e.targets x ≡ true → Part d.clock e.clock

-- so it is of each two of some equations
abbrev pub AreParted : List FlatEqn → Type 0
AreParted [] = ⊤
AreParted (e ∷ es) = AllByRecursion (Differ e) es × AreParted es

abbrev pub IsParted : FlatNode → Type 0
IsParted f = AreParted f.eqns

-- So it is of each node that is made of a program without automata whose names are defined once and whose tests are typed.
abbrev pub PartedLaw : Type 0
PartedLaw =
    (types : List TypeDecl) (outputs : List ℕ → List (List ℕ)) (k : Known) (program : List Item) (fs : List FlatNode) → Knows types outputs k → ConstructorsDiffer types
    → EachNode (λ (n : Node). IsPlain n.body) program → AreTested types (reverse program) → AreMadeOf k program fs → AllByRecursion IsParted fs

-- No two that are there define one variable, whatever the values at an instant are,
abbrev pub IsAlwaysExclusive : FlatNode → Type 0
IsAlwaysExclusive f = (now : Instant) → IsExclusive now f.eqns

-- in each such node.
abbrev pub ExclusiveLaw : Type 0
ExclusiveLaw =
    (types : List TypeDecl) (outputs : List ℕ → List (List ℕ)) (k : Known) (program : List Item) (fs : List FlatNode) → Knows types outputs k → ConstructorsDiffer types
    → EachNode (λ (n : Node). IsPlain n.body) program → AreTested types (reverse program) → AreMadeOf k program fs → AllByRecursion IsAlwaysExclusive fs
