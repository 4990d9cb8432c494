-- The node without needless choices and copies, and without equations that nothing needs.
use Rattle.std.specs.Prelude.{List}
use Rattle.std.specs.List.Sorted.{IsNonDecreasingBy}
use Rattle.hp_flat.specs.Equations.{FlatEqn}
use Rattle.hp_flat.specs.Nodes.{FlatNode}
use Rattle.hp_normal.specs.Retargeting.{retargeted}
use Rattle.hp_normal.specs.Substituting.{substituted}
use Rattle.hp_normal.specs.Choices.{simple}
use Rattle.hp_normal.specs.Needing.{pruned}

abbrev pub normal : FlatNode → FlatNode
normal n = pruned (retargeted (substituted (retargeted (simple n))))

-- No equation has a lesser place than one before it.
abbrev pub InOrder : List FlatEqn → Type 0
InOrder es = IsNonDecreasingBy (λ (e : FlatEqn). e.at) es
