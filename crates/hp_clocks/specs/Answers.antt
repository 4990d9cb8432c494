-- Which clocks the nodes of a program get, and where it has none.
use Rattle.std.specs.Prelude.{ℕ, ◌<◌, ◌≡◌, ⊤, List, [], ◌∷◌, ◌++◌, map, reverse, All, length}
use Rattle.hp_base.specs.declared.span.Span.{Span}
use Rattle.hp_base.specs.declared.limit.Limit.{Limit}
use Rattle.hp_base.specs.declared.limit.What.TheVariants as what
use Rattle.hp_tree.specs.Programs.{Node}
use Rattle.hp_tree.specs.declared.program.Item.{Item}
use Rattle.hp_tree.specs.declared.program.Item.TheVariants.{TypeItem, NodeItem}
use Rattle.hp_meaning.specs.Clocking.Terms.{IsShortest}
use Rattle.hp_meaning.specs.Clocking.Clocking.{Assignment, IsAllowed, AreClocks, node_sights, node_units, node_with_clocks, NodeNamed}
use Rattle.hp_meaning.specs.Clocking.Solving.{FirstClash}
use Rattle.hp_meaning.specs.Clocking.EveryClock.{IsLong}
use Rattle.hp_clocks.specs.declared.error.ClockErr.{ClockErr}
use Rattle.hp_clocks.specs.declared.error.ClockErr.TheVariants as error
use Rattle.hp_clocks.specs.declared.solve.Solution.{Solution}
use Rattle.hp_clocks.specs.declared.solved.SolvedNode.{SolvedNode}
use Rattle.hp_clocks.specs.Cells.{AreCells}
use Rattle.hp_clocks.specs.Solved.{clock_read, IsSolved}
use Rattle.hp_clocks.specs.Writing.{Path, AreAssigned, paths_of_items}

-- ---- what is said of nodes

-- the shortest clocks that a node may have
abbrev pub AreShortest : Node → Assignment → Type 0
AreShortest n at = IsShortest (IsAllowed n) at

-- With these clocks written a node has one of more than 64 steps. It is asked of nodes whose names are right.
abbrev pub AreLong : Node → Assignment → Type 0
AreLong n at = IsLong 64 (node_with_clocks at n)

-- The shortest clocks of a node, none of which is too long.
abbrev pub IsClocked : Node → Assignment → Type 0
IsClocked n at = AreShortest n at × (NodeNamed n → AreLong n at → ⊥)

-- ---- what is said of programs

-- Each node may have clocks.
abbrev pub HaveClocks : List Item → Type 0
HaveClocks [] = ⊤
HaveClocks (TypeItem t ∷ items) = HaveClocks items
HaveClocks (NodeItem n ∷ items) = ((at : Assignment) × IsAllowed n at) × HaveClocks items

-- The shortest clocks of no node are too long.
abbrev pub NoneLong : List Item → Type 0
NoneLong [] = ⊤
NoneLong (TypeItem t ∷ items) = NoneLong items
NoneLong (NodeItem n ∷ items) = ((at : Assignment) → AreShortest n at → NodeNamed n → AreLong n at → ⊥) × NoneLong items

-- The names of each node are right.
abbrev pub AreNamed : List Item → Type 0
AreNamed [] = ⊤
AreNamed (TypeItem t ∷ items) = AreNamed items
AreNamed (NodeItem n ∷ items) = NodeNamed n × AreNamed items

-- The node of a name is the first that has no clocks, and its unit at a place is the first such that the units up to it allow none.
pub record IsClash (items : List Item) (name : List ℕ) (at : Span) : Type 0 where
  pub before : List Item
  pub node : Node
  pub behind : List Item
  pub split : items ≡ before ++ NodeItem node ∷ behind
  pub named : node.name ≡ name
  pub earlier : HaveClocks before
  pub clash : FirstClash (AreClocks (node_sights node)) (node_units node) at

abbrev pub too_long : Limit
too_long = record { what = what.Clock; found = 65 }

-- Each node has clocks, and the node of a name is the first whose shortest ones are too long.
pub record IsTooLong (items : List Item) (name : List ℕ) (limit : Limit) : Type 0 where
  pub before : List Item
  pub node : Node
  pub behind : List Item
  pub split : items ≡ before ++ NodeItem node ∷ behind
  pub named : node.name ≡ name
  pub passed : limit ≡ too_long
  pub clocks : HaveClocks items
  pub earlier : NoneLong before
  pub at : Assignment
  pub shortest : AreShortest node at
  pub long : NodeNamed node → AreLong node at

-- why a program gets no clocks
abbrev pub Refuses : List Item → ClockErr → Type 0
Refuses items (error.Clash name at) = IsClash items name at
Refuses items (error.Limit name limit) = IsTooLong items name limit
Refuses items error.OutOfMemory = ⊤

-- ---- on the way to the answer

-- what solving one node says, and solving some
abbrev pub NamesNode : Node → ClockErr → Type 0
NamesNode n (error.Clash name at) = (n.name ≡ name) × FirstClash (AreClocks (node_sights n)) (node_units n) at
NamesNode n (error.Limit name limit) = ⊥
NamesNode n error.OutOfMemory = ⊤

abbrev pub NamesClash : List Item → ClockErr → Type 0
NamesClash items (error.Clash name at) = IsClash items name at
NamesClash items (error.Limit name limit) = ⊥
NamesClash items error.OutOfMemory = ⊤

-- Each node is solved, in order.
abbrev pub IsSolvedNode : Node → SolvedNode → Type 0
IsSolvedNode n s = (s.name.now ≡ n.name) × IsSolved n s.solution

abbrev pub AreSolved : List Item → List SolvedNode → Type 0
AreSolved [] [] = ⊤
AreSolved [] (s ∷ ss) = ⊥
AreSolved (TypeItem t ∷ items) ss = AreSolved items ss
AreSolved (NodeItem n ∷ items) [] = ⊥
AreSolved (NodeItem n ∷ items) (s ∷ ss) = IsSolvedNode n s × AreSolved items ss

abbrev pub AddsOne : List ℕ → Solution → List SolvedNode → List SolvedNode → Type 0
AddsOne name solution old new = (s : SolvedNode) × (new ≡ old ++ s ∷ []) × (s.name.now ≡ name) × (s.solution ≡ solution)

abbrev pub AddsSolved : Item → List SolvedNode → List SolvedNode → Type 0
AddsSolved (TypeItem t) old new = new ≡ old
AddsSolved (NodeItem n) old new = (s : SolvedNode) × (new ≡ old ++ s ∷ []) × IsSolvedNode n s

-- Cells of a solution are cells, and its numbers are numbers of them.
pub record IsKnown (s : Solution) : Type 0 where
  pub cells : AreCells s.cells.cells.items
  pub locals : All (λ l. l < length s.cells.cells.items) s.locals.items
  pub rights : All (λ r. r.0 < length s.cells.cells.items) s.rights.items

-- No clock that is solved is too long, or one is.
abbrev pub IsShort : Solution → Type 0
IsShort s = (n : Node) → (h : IsSolved n s) → NodeNamed n → AreLong n h.at → ⊥

abbrev pub NamesLong : SolvedNode → ClockErr → Type 0
NamesLong s (error.Clash name at) = ⊥
NamesLong s (error.Limit name limit) = (s.name.now ≡ name) × (limit ≡ too_long) × ((n : Node) → (h : IsSolved n s.solution) → NodeNamed n → AreLong n h.at)
NamesLong s error.OutOfMemory = ⊤

abbrev pub AreShort : List SolvedNode → Type 0
AreShort [] = ⊤
AreShort (s ∷ ss) = IsShort s.solution × AreShort ss

pub record IsFirstLong (ss : List SolvedNode) (e : ClockErr) : Type 0 where
  pub before : List SolvedNode
  pub one : SolvedNode
  pub behind : List SolvedNode
  pub split : ss ≡ before ++ one ∷ behind
  pub earlier : AreShort before
  pub long : NamesLong one e

-- the paths of all clocks that are solved
abbrev pub solved_paths : Solution → List Path
solved_paths s = map (λ l. reverse (clock_read s.cells.cells.items l)) s.locals.items

abbrev pub all_paths : List SolvedNode → List Path
all_paths [] = []
all_paths (s ∷ ss) = solved_paths s.solution ++ all_paths ss

-- These are the paths of the shortest clocks of all nodes.
abbrev pub ArePaths : List Item → List Path → Type 0
ArePaths items ps = (ats : List Assignment) × AreAssigned IsClocked items ats × (ps ≡ paths_of_items ats items)
