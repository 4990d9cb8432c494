-- How the machine of clocked equations is made.
use Rattle.std.specs.Prelude.{◌≡◌, ⊤, Bool, true, false, List, [], ◌∷◌, length, map}
use Rattle.std.specs.List.{AllByRecursion, filter}
use Rattle.std.specs.List.Sorted.{IsPermutation}
use Rattle.hp_flat.specs.Equations.{FlatEqn}
use Rattle.hp_flat.specs.Nodes.{FlatNode}
use Rattle.hp_obc.specs.Machines.{ObcType, Machine}
use Rattle.law_equations.specs.Made.Laws.{unplaced}
use Rattle.law_equations.specs.Meaning.Scheduling.{IsInOrder, reads, AreBelow, IsRanked}
use Rattle.hp_schedule.specs.ByClock.{IsByClock}
use Rattle.hp_normal.specs.Retargeting.{with_eqns}
use Rattle.hp_normal.specs.Normal.{normal}
use Rattle.hp_toobc.specs.Making.{machine_of}
use Rattle.hp_fuse.specs.Fusing.{fused_machine}
use Rattle.hp_form.specs.Regular.Regular.{IsRegular}

-- The equations of a node stand in the order by clock, needless choices and copies and what nothing needs are taken away, each equation becomes commands, and neighbouring cases are joined.
pub record IsArrangedAs (types : List ObcType) (n : FlatNode) (m : Machine) : Type 0 where
  pub scheduled : List FlatEqn
  pub same : IsPermutation (map unplaced n.eqns) (map unplaced scheduled)
  pub order : IsInOrder scheduled
  pub by_clock : IsRanked n.eqns → AllByRecursion (λ (e : FlatEqn). AreBelow (length n.variables) (reads e)) n.eqns → IsByClock (length n.variables) n.eqns scheduled
  pub made : m ≡ fused_machine (machine_of types (normal (with_eqns n scheduled)))

-- an equation defines a variable; one that does not, as `() = f(x)`, gives no value
abbrev pub defines_some : FlatEqn → Bool
defines_some e = elim e.targets [ [] ↦ false | x ∷ xs ↦ true ]

-- a node with its equations that define something
abbrev pub giving : FlatNode → FlatNode
giving n = with_eqns n (filter defines_some n.eqns)

-- So a machine is made of a node whose equations are regular, of those that define something.
pub record IsMachineOf (types : List ObcType) (n : FlatNode) (m : Machine) : Type 0 where
  pub regular : IsRegular types n
  pub arranged : IsArrangedAs types (giving n) m

-- There is one for each node, in order.
abbrev pub AreMade : List ObcType → List FlatNode → List Machine → Type 0
AreMade types [] [] = ⊤
AreMade types (n ∷ ns) (m ∷ ms) = IsMachineOf types n m × AreMade types ns ms
AreMade types ns ms = ⊥
