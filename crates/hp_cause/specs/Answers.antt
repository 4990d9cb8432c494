-- What is answered.
use Rattle.std.specs.Prelude.{ℕ, ◌≡◌, ⊤, List, [], ◌∷◌, ◌++◌, map}
use Rattle.std.specs.declared.alloc.Global.{Global}
use Rattle.std.specs.declared.vec.Vec.{Vec}
use Rattle.hp_tree.specs.declared.program.Item.{Item}
use Rattle.hp_tree.specs.declared.program.Item.TheVariants.{TypeItem, NodeItem}
use Rattle.hp_tree.specs.Programs.{Node}
use Rattle.hp_meaning.specs.Causal.Causality.{IsCausal}
use Rattle.hp_meaning.specs.Causal.RanksOfPoints.{RanksFall}
use Rattle.hp_meaning.specs.Causal.Points.{NamesDeclared}
use Rattle.hp_cause.specs.declared.error.CauseErr.{CauseErr}
use Rattle.hp_cause.specs.declared.error.CauseErr.TheVariants.{Cycle, OutOfMemory}
use Rattle.hp_cause.specs.Ordering.{IsCycleOf, IsFirstCycle}

abbrev pub lists : List (Vec ℕ Global) → List (List ℕ)
lists ranks = map (λ (r : Vec ℕ Global). r.items) ranks

-- The error names a cycle of the first node that has one; want of memory names none.
abbrev pub NamesCycle : List Item → CauseErr → Type 0
NamesCycle items (Cycle name named) = IsFirstCycle items name named.items
NamesCycle items OutOfMemory = ⊤

-- The same of one node.
abbrev pub NamesNode : Node → CauseErr → Type 0
NamesNode n (Cycle name named) = (n.name ≡ name) × IsCycleOf n named.items
NamesNode n OutOfMemory = ⊤

-- an item, before which and behind which there are these lists of ranks
abbrev pub ItemOrdered : Item → List (List ℕ) → List (List ℕ) → Type 0
ItemOrdered (TypeItem t) before after = before ≡ after
ItemOrdered (NodeItem n) before after = (own : List ℕ) × ((after ≡ before ++ own ∷ []) × (NamesDeclared n × RanksFall n own × IsCausal n))
