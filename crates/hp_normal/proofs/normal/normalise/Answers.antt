use Rattle.std.proofs.Common.{ap, subst, sym, ◌∙◌}
use Rattle.hp_flat.specs.Nodes.{FlatNode}
use Rattle.hp_normal.specs.Following.{AreBehind}
use Rattle.hp_normal.specs.Needing.{pruned}
use Rattle.hp_normal.specs.Normal.{InOrder}
use Rattle.hp_normal.specs.Retargeting.{retargeted}
use Rattle.hp_normal.specs.Substituting.{substituted}
use Rattle.hp_normal.proofs.NormalLaws.{normal-behind, normal-in_order}
use Rattle.hp_normal.proofs.normal.normalise.Goals as goal

pub returns-clause-node : goal.returns-clause-node
returns-clause-node c = c.in_ok-node-5.ensures ∙ ap pruned (c.in_ok-node-4.ensures ∙ ap retargeted (c.in_ok-node-3.ensures ∙ ap substituted (c.in_ok-node-2.ensures ∙ ap retargeted c.in_ok-node.ensures)))

pub returns-clause-behind : goal.returns-clause-behind
returns-clause-behind c = λ h. subst (λ (n : FlatNode). AreBehind n.eqns) (sym (returns-clause-node c)) (normal-behind c.args.scheduled.node h)

pub returns-clause-order : goal.returns-clause-order
returns-clause-order c = λ h. subst (λ (n : FlatNode). InOrder n.eqns) (sym (returns-clause-node c)) (normal-in_order c.args.scheduled.node h)
