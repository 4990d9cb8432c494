use Rattle.std.proofs.Common.{◌≡◌, [], ◌∷◌, ◌++◌, ap, ◌∙◌}
use Rattle.hp_tree.specs.Programs.{Node}
use Rattle.hp_clocks.specs.Layers.{sight, says, says_based}
use Rattle.hp_clocks.proofs.SightLaws.{sight_based}
use Rattle.hp_clocks.proofs.solve.interface.Goals as goal

pub returns : goal.returns
returns c =
    let n = c.args.node.now in
    let inputs : c.deref.result.now ≡ n.inputs = c.deref.ensures.value ∙ ap (λ (m : Node). m.inputs) c.node.view_is in
    let outputs : c.deref-2.result.now ≡ n.outputs = c.deref-2.ensures.value ∙ ap (λ (m : Node). m.outputs) c.node.view_is in
    ap sight (c.in_ok-push.ensures.items ∙ ap (λ ls. ls ++ c.add_based-3.new.self ∷ []) c.new-layers.ensures.items)
    ∙ sight_based c.add_based-3.new.self n c.args.controls.now
    (c.in_ok-add_based-3.ensures
    ∙ ap (says_based c.args.controls.now)
    (c.in_ok-add_based-2.ensures
    ∙ ap (λ ds. says_based ds (says c.add_based.new.self)) outputs
    ∙ ap (says_based n.outputs) (c.in_ok-add_based.ensures ∙ ap (λ ds. says_based ds (says c.new-layer.result)) inputs ∙ ap (says_based n.inputs) c.new-layer.ensures)))
