use Rattle.std.proofs.Common.{◌≡◌, ap, ◌∙◌}
use Rattle.hp_tree.specs.Programs.{Contract}
use Rattle.hp_expand.specs.Replacing.{equations_of, in_eqns, in_condition}
use Rattle.hp_expand.specs.NodeTables.{node_in}
use Rattle.hp_expand.proofs.blocks.replace_conditions.Goals as goal

pub returns-clause-enforce : goal.returns-clause-enforce
returns-clause-enforce c =
    let nodes = node_in c.args.nodes.now in
    let contract = c.args.contract.now in
    let k = c.args.made.now.next in
    let es = in_eqns nodes k (equations_of contract.body) in
    let first : c.replace_equations.new.made.next ≡ es.next =
    c.in_ok-replace_equations.ensures.next ∙ ap (λ (d : Contract). (in_eqns nodes k (equations_of d.body)).next) c.contract.view_is in
    let second : c.replace_condition.new.made.next ≡ (in_condition nodes es.next contract.assume).next =
    c.in_ok-assume.ensures.next ∙ (λ j. (in_condition nodes (first j) (c.contract.view_is j).assume).next) in
    c.in_ok-enforce.ensures.condition ∙ (λ j. (in_condition nodes (second j) (c.contract.view_is j).enforce).part)

pub returns-clause-next : goal.returns-clause-next
returns-clause-next c =
    let nodes = node_in c.args.nodes.now in
    let contract = c.args.contract.now in
    let k = c.args.made.now.next in
    let es = in_eqns nodes k (equations_of contract.body) in
    let first : c.replace_equations.new.made.next ≡ es.next =
    c.in_ok-replace_equations.ensures.next ∙ ap (λ (d : Contract). (in_eqns nodes k (equations_of d.body)).next) c.contract.view_is in
    let second : c.replace_condition.new.made.next ≡ (in_condition nodes es.next contract.assume).next =
    c.in_ok-assume.ensures.next ∙ (λ j. (in_condition nodes (first j) (c.contract.view_is j).assume).next) in
    c.in_ok-enforce.ensures.next ∙ (λ j. (in_condition nodes (second j) (c.contract.view_is j).enforce).next)
