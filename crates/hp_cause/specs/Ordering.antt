-- When the points of a program are ordered, and when a cycle of reads is named.
use Rattle.std.specs.Prelude.{ℕ, ◌≡◌, ◌<◌, ⊤, List, [], ◌∷◌, ◌++◌, map, get_or, All, Contains}
use Rattle.hp_tree.specs.declared.program.Item.{Item}
use Rattle.hp_tree.specs.declared.program.Item.TheVariants.{TypeItem, NodeItem}
use Rattle.hp_tree.specs.Programs.{Node}
use Rattle.hp_tree.specs.Instant.{Place}
use Rattle.hp_meaning.specs.declared.causal.point.Point.{Point}
use Rattle.hp_meaning.specs.Causal.Causality.{Chain, IsCausal}
use Rattle.hp_meaning.specs.Causal.Clocked.{ClocksRight}
use Rattle.hp_meaning.specs.Causal.Points.{Placed, points, NamesDeclared}
use Rattle.hp_meaning.specs.Causal.RanksOfPoints.{RanksFall}
use Rattle.hp_graph.specs.Graphs.{IsCycle}
use Rattle.hp_cause.specs.declared.sorting.Order.{Order}
use Rattle.hp_cause.specs.declared.sorting.Order.TheVariants.{Ranks, Cycle}
use Rattle.hp_cause.specs.Facts.{reads_in}
use Rattle.hp_cause.specs.Gathering.{of_node}
use Rattle.hp_cause.specs.Walked.{NamesDefinedOnce}

-- ---- programs

-- the nodes that can be ordered: each name is declared, and has one equation in its block, and the clocks are right
abbrev pub AllJudged : List Item → Type 0
AllJudged [] = ⊤
AllJudged (TypeItem t ∷ items) = AllJudged items
AllJudged (NodeItem n ∷ items) = NamesDeclared n × NamesDefinedOnce n × ClocksRight n × AllJudged items

-- Each node is causal.
abbrev pub AllNodesCausal : List Item → Type 0
AllNodesCausal [] = ⊤
AllNodesCausal (TypeItem t ∷ items) = AllNodesCausal items
AllNodesCausal (NodeItem n ∷ items) = IsCausal n × AllNodesCausal items

abbrev pub IsNoneOf : List Place → Place → Type 0
IsNoneOf [] p = ⊤
IsNoneOf (q ∷ qs) p = (q ≡ p → ⊥) × IsNoneOf qs p

abbrev pub EachOnce : List Place → Type 0
EachOnce [] = ⊤
EachOnce (p ∷ ps) = IsNoneOf ps p × EachOnce ps

-- The named points are a cycle of a node: each reads the next, the last is the first, no other stands twice, and the first is the first of them in the order of the points.
pub record IsCycleOf (n : Node) (named : List Point) : Type 0 where
  pub first : Placed
  pub others : List Placed
  pub told : named ≡ map (λ (p : Placed). p.point) (first ∷ (others ++ first ∷ []))
  pub reads : Chain n first.place (map (λ (p : Placed). p.place) others) first.place
  pub before : List Placed
  pub behind : List Placed
  pub listed : points n ≡ before ++ first ∷ behind
  pub later : All (Contains behind) others
  pub once : EachOnce (map (λ (p : Placed). p.place) (first ∷ others))

-- They are a cycle of the first node that has one.
pub record IsFirstCycle (items : List Item) (name : List ℕ) (named : List Point) : Type 0 where
  pub before : List Item
  pub node : Node
  pub behind : List Item
  pub split : items ≡ before ++ NodeItem node ∷ behind
  pub is : node.name ≡ name
  pub earlier : AllNodesCausal before
  pub cycle : IsCycleOf node named

-- ---- one node, and its graph

-- ranks of the points of a causal node, or a cycle of vertices that read each other
abbrev pub IsOrder : Node → Order → Type 0
IsOrder n (Ranks ranks) = RanksFall n ranks.items × IsCausal n
IsOrder n (Cycle cycle) = IsCycle (reads_in (of_node n)) cycle.items
