-- Nodes that stay well built when more is added to them, one step after another.
-- Source: own.
use Rattle.std.specs.Prelude.{◌≡◌, ℕ, ◌<◌, ◌≤◌, List, [], length}
use Rattle.std.specs.List.{AllByRecursion}
use Rattle.hp_obc.specs.Machines.{ObcType}
use Rattle.hp_flat.specs.Equations.{Clock, FlatEqn}
use Rattle.hp_flat.specs.Nodes.{FlatNode}
use Rattle.law_equations.specs.Meaning.Kinding.{Callees}
use Rattle.hp_watch.specs.Growing.{Grows}
use Rattle.law_choices.specs.Adding.Adding.{IsWellBuilt}
use Rattle.law_choices.specs.Adding.Base.{based}

-- A node that is well built, whose inputs are on the base clock.
pub record IsBased (types : List ObcType) (callees : Callees) (clock : ℕ → Clock) (n : FlatNode) : Type 0 where
  pub well : IsWellBuilt types callees clock n
  pub inputs : (x : ℕ) → x < n.inputs → clock x ≡ []

-- So is each that is well built: its inputs may be on the base clock.
abbrev pub BasedLaw : Type 0
BasedLaw = (types : List ObcType) (callees : Callees) (clock : ℕ → Clock) (n : FlatNode) → IsWellBuilt types callees clock n → IsBased types callees (based n clock) n

-- The other node has more variables and equations, and is so too; the variables of both have the same clocks, and what is added defines new ones.
pub record Keeps (types : List ObcType) (callees : Callees) (clock : ℕ → Clock) (n other : FlatNode) : Type 0 where
  pub clocks : ℕ → Clock
  pub built : IsBased types callees clocks other
  pub same : (x : ℕ) → x < length n.variables → clocks x ≡ clock x
  pub grows : Grows n other
  pub fresh : AllByRecursion (λ (e : FlatEqn). AllByRecursion (λ x. length n.variables ≤ x) e.targets) (grows.eqns).0

-- Another node is so too, which may take some inputs less; the variables of both have the same clocks.
pub record Stays (types : List ObcType) (callees : Callees) (clock : ℕ → Clock) (n other : FlatNode) : Type 0 where
  pub clocks : ℕ → Clock
  pub built : IsBased types callees clocks other
  pub same : (x : ℕ) → x < length n.variables → clocks x ≡ clock x
