-- What is said of nodes that a node does not call matters to none of its equations.
-- Source: own.
use Rattle.std.specs.Prelude.{◌≡◌, ⊤, ℕ, List}
use Rattle.std.specs.List.{AllByRecursion}
use Rattle.hp_obc.specs.Machines.{ObcType}
use Rattle.hp_flat.specs.Equations.{Clock, Right, operator, register, called, FlatEqn}
use Rattle.hp_flat.specs.Nodes.{FlatNode}
use Rattle.law_equations.specs.Meaning.Kinding.{Callees}
use Rattle.law_choices.specs.Adding.Keeping.{IsBased}

-- of the node that is called, if one is, the same is said
abbrev pub SaysSame : Callees → Callees → Right → Type 0
SaysSame callees others (operator op args) = ⊤
SaysSame callees others (register first next) = ⊤
SaysSame callees others (called f args) = (others.takes f ≡ callees.takes f) × (others.gives f ≡ callees.gives f)

abbrev pub CalledLaw : Type 0
CalledLaw =
    (types : List ObcType) (callees others : Callees) (clock : ℕ → Clock) (n : FlatNode) → AllByRecursion (λ (e : FlatEqn). SaysSame callees others e.right) n.eqns → IsBased types callees clock n → IsBased types others clock n
