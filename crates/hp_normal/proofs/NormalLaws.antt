-- Equations stay in order, and behind those that define what they read, over all passes.
use Rattle.hp_flat.specs.Nodes.{FlatNode}
use Rattle.hp_normal.specs.Choices.{simple}
use Rattle.hp_normal.specs.Following.{AreBehind}
use Rattle.hp_normal.specs.Normal.{InOrder, normal}
use Rattle.hp_normal.specs.Retargeting.{retargeted}
use Rattle.hp_normal.specs.Substituting.{substituted}
use Rattle.hp_normal.proofs.BehindLaws.{retargeted_step, substituted_step}
use Rattle.hp_normal.proofs.ChoiceLaws.{simple_in_order, simple_step}
use Rattle.hp_normal.proofs.NeedLaws.{pruned_step}
use Rattle.hp_normal.proofs.OrderLaws.{pruned_in_order, retargeted_in_order, substituted_in_order}

module _ (n : FlatNode) where
  abbrev m1 : FlatNode
  m1 = simple n

  abbrev m2 : FlatNode
  m2 = retargeted m1

  abbrev m3 : FlatNode
  m3 = substituted m2

  abbrev m4 : FlatNode
  m4 = retargeted m3

  pub normal-behind : AreBehind n.eqns → AreBehind (normal n).eqns
  normal-behind h = pruned_step m4 (retargeted_step m3 (substituted_step m2 (retargeted_step m1 (simple_step n h))))

  pub normal-in_order : InOrder n.eqns → InOrder (normal n).eqns
  normal-in_order h = pruned_in_order m4 (retargeted_in_order m3 (substituted_in_order m2 (retargeted_in_order m1 (simple_in_order n h))))
