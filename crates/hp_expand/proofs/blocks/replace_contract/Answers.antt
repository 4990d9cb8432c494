use Rattle.std.proofs.Common.{◌≡◌, ◌++◌, map, Option, Some, ap, ◌∙◌}
use Rattle.hp_tree.specs.BlockView.{eqn_seen}
use Rattle.hp_tree.specs.Expressions.{Expr}
use Rattle.hp_tree.specs.Blocks.{block, eqns_of}
use Rattle.hp_tree.specs.Programs.{Contract}
use Rattle.hp_expand.specs.Replacing.{Replaced, locals_of}
use Rattle.hp_expand.specs.Making.{with_more, in_conditions}
use Rattle.hp_expand.specs.NodeTables.{node_in}
use Rattle.hp_expand.proofs.BlockMaking.{contract-made}
use Rattle.hp_expand.proofs.blocks.replace_contract.Goals as goal

pub returns-clause-contract : goal.returns-clause-contract
returns-clause-contract c =
    let nodes = node_in c.args.nodes.now in
    let contract = c.args.contract.now in
    let r = in_conditions nodes c.args.next.now contract in
    let first = c.in_ok-made.ensures in
    let made = c.in_ok-conditions.ensures in
    let own : c.in_ok-made.made.locals.items ≡ locals_of contract.body = first.locals ∙ ap (λ (d : Contract). locals_of d.body) c.contract.view_is in
    let same : in_conditions nodes c.in_ok-made.made.next contract ≡ r = ap (λ k. in_conditions nodes k contract) first.next in
    let body : c.finish.result ≡ block (locals_of contract.body ++ r.locals) (eqns_of r.before) =
    c.finish.ensures
    ∙ contract-made (locals_of contract.body) r.locals c.replace_conditions.new.made.locals.items (map eqn_seen c.replace_conditions.new.made.eqns.items) r.before
    (made.locals ∙ (λ j. with_more (own j) (same j).locals)) (made.eqns ∙ (λ j. with_more (first.eqns j) (same j).before)) in
    let assume : c.in_ok-conditions.conditions.assume ≡ r.part.0 = made.assume ∙ ap (λ (s : Replaced (Option Expr × Option Expr)). s.part.0) same in
    let enforce : c.in_ok-conditions.conditions.enforce ≡ r.part.1 = made.enforce ∙ ap (λ (s : Replaced (Option Expr × Option Expr)). s.part.1) same in
    let controls : c.in_ok-controls.controls.items ≡ contract.controls = c.in_ok-controls.ensures ∙ c.deref.ensures.value ∙ ap (λ (d : Contract). d.controls) c.contract.view_is in
    λ j. Some (record { body = body j; assume = assume j; enforce = enforce j; controls = controls j; span = (c.contract.view_is j).span })
