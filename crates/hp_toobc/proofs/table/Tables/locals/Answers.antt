use Rattle.std.proofs.Common.{◌≡◌, ap, ◌∙◌, length, map, drop, refl}
use Rattle.hp_flat.specs.Nodes.{FlatNode}
use Rattle.hp_toobc.specs.Making.{declared}
use Rattle.hp_toobc.specs.Flags.{flagged}
use Rattle.hp_toobc.proofs.FlagLaws.{flagged-locals}
use Rattle.hp_toobc.proofs.table.Tables.locals.Goals as goal

pub returns : goal.returns
returns c =
    let types = c.args.self.now.types.now in
    let vs = c.args.self.now.variables.now in
    let n = c.args.node.now in
    let flags = c.in_ok-flags.flags.items in
    let inputs : c.node.inside.inputs ≡ n.inputs = ap (λ (m : FlatNode). m.inputs) c.node.view_is in
    c.in_ok-vars.ensures
    ∙ ap (λ fs. map (declared types) (flagged (drop c.node.inside.inputs fs) (drop c.node.inside.inputs vs))) c.deref.ensures.value
    ∙ ap (λ k. map (declared types) (flagged (drop k flags) (drop k vs))) inputs
    ∙ flagged-locals types n flags vs (length vs) refl c.in_ok-flags.ensures.count c.in_ok-flags.ensures.flags
