-- When a node is causal, and when it is ordered.
use Rattle.std.specs.Prelude.{ℕ, ◌<◌, List, [], ◌∷◌, ⊤}
use Rattle.hp_tree.specs.declared.program.Item.{Item}
use Rattle.hp_tree.specs.declared.program.Item.TheVariants.{TypeItem, NodeItem}
use Rattle.hp_tree.specs.Programs.{Node}
use Rattle.hp_tree.specs.Instant.{Place}
use Rattle.hp_meaning.specs.Causal.Sources.{PlaceSources, only, Within, IsRead, IsSource}
use Rattle.hp_meaning.specs.Causal.WhatIsRead.{in_node}
use Rattle.hp_meaning.specs.Causal.Points.{NamesDeclared}
use Rattle.hp_meaning.specs.Causal.Clocked.{ClocksRight}

-- what a place of a node reads, and what else it depends on
abbrev pub sources : Node → PlaceSources
sources n = in_node n only

-- One place of a node reads another.
abbrev pub Reads : Node → Place → Place → Type 0
Reads n p q = IsRead q (sources n p)

-- A chain of reads: each place of the list reads the next, and the last one reads the end.
abbrev pub Chain : Node → Place → List Place → Place → Type 0
Chain n p [] end = Reads n p end
Chain n p (q ∷ qs) end = Reads n p q × Chain n q qs end

-- No place reads itself by one or more steps.
abbrev pub IsCausal : Node → Type 0
IsCausal n = (p : Place) (between : List Place) → Chain n p between p → ⊥

-- A chain of dependences, in the same form.
abbrev pub DependsBy : Node → Place → List Place → Place → Type 0
DependsBy n p [] end = IsSource end (sources n p)
DependsBy n p (q ∷ qs) end = IsSource q (sources n p) × DependsBy n q qs end

-- ranks below a bound, such that what a place depends on has less rank
pub record Ranked (n : Node) : Type 0 where
  pub rank : Place → ℕ
  pub bound : ℕ
  pub bounded : (p : Place) → rank p < bound
  pub falls : (p : Place) → Within (λ q. rank q < rank p) (sources n p)

-- a program whose nodes have ranks
abbrev pub IsRanked : List Item → Type 0
IsRanked [] = ⊤
IsRanked (TypeItem t ∷ items) = IsRanked items
IsRanked (NodeItem n ∷ items) = Ranked n × IsRanked items

-- Where ranks are, there is no cycle.
abbrev pub CausalLaw : Type 0
CausalLaw = (n : Node) → Ranked n → IsCausal n

-- Where each name is declared, a node without a cycle of dependences has ranks.
abbrev pub OrderLaw : Type 0
OrderLaw = (n : Node) → NamesDeclared n → ((p : Place) (between : List Place) → DependsBy n p between p → ⊥) → Ranked n

-- Where clocks are right, a node without a cycle of reads has no cycle of dependences either.
abbrev pub ClocksLaw : Type 0
ClocksLaw = (n : Node) → IsCausal n → ClocksRight n → (p : Place) (between : List Place) → DependsBy n p between p → ⊥

-- a program whose nodes are causal, with each name declared and the clocks right
abbrev pub AllCausal : List Item → Type 0
AllCausal [] = ⊤
AllCausal (TypeItem t ∷ items) = AllCausal items
AllCausal (NodeItem n ∷ items) = NamesDeclared n × ClocksRight n × IsCausal n × AllCausal items

-- Such a program has ranks.
abbrev pub CausalProgramLaw : Type 0
CausalProgramLaw = (program : List Item) → AllCausal program → IsRanked program
