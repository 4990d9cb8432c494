use Rattle.std.proofs.Common.{◌++◌, map, ◌∙◌}
use Rattle.hp_tree.specs.BlockView.{eqn_seen}
use Rattle.hp_tree.specs.Expressions.{exprs_of}
use Rattle.hp_tree.specs.Blocks.{list_of_eqns}
use Rattle.hp_expand.specs.Renaming.{renamed_decls, renamed_eqns}
use Rattle.hp_expand.specs.NewNames.{marked}
use Rattle.hp_expand.specs.Replacing.{given, equations_of}
use Rattle.hp_expand.specs.Making.{with_more}
use Rattle.hp_expand.specs.NodeTables.{node_in}
use Rattle.hp_expand.proofs.MakingLaws.{inlined-locals, inlined-eqns}
use Rattle.hp_expand.proofs.replace.inline.Goals as goal

pub returns-clause-locals : goal.returns-clause-locals
returns-clause-locals c =
    let before = c.args.made.now.locals.items in
    let callee = c.callee-callee.result in
    let is = c.callee-callee.ensures in
    let number = c.in_ok-take_number.ensures.number in
    inlined-locals (marked c.in_ok-take_number.field-0) before c.add_decls.new.into.items c.add_decls-2.new.into.items c.add_decls-3.new.into.items
    callee.inputs.now callee.outputs.now callee.locals.now c.in_ok-add_decls.ensures c.in_ok-add_decls-2.ensures c.in_ok-add_decls-3.ensures
    ∙ (λ j. with_more before (renamed_decls (marked (number j)) (is.inputs j ++ (is.outputs j ++ is.locals j))))

pub returns-clause-eqns : goal.returns-clause-eqns
returns-clause-eqns c =
    let before = map eqn_seen c.args.made.now.eqns.items in
    let callee = c.callee-callee.result in
    let is = c.callee-callee.ensures in
    let number = c.in_ok-take_number.ensures.number in
    let k = c.in_ok-take_number.field-0 in
    let args = exprs_of c.args.args.now in
    let body = equations_of (node_in c.args.nodes.now c.args.node.now).body in
    inlined-eqns (marked k) before (map eqn_seen c.add_given.new.into.items) (map eqn_seen c.add_eqns.new.into.items) (given (renamed_decls (marked k) callee.inputs.now) args)
    callee.eqns.now body c.in_ok-add_given.ensures c.in_ok-add_eqns.ensures is.eqns
    ∙ (λ j. with_more before (given (renamed_decls (marked (number j)) (is.inputs j)) args ++ list_of_eqns (renamed_eqns (marked (number j)) body)))
