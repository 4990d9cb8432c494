use Rattle.std.proofs.Common.{◌∙◌}
use Rattle.hp_typing.specs.Uses.{how}
use Rattle.hp_typing.proofs.DefinedLaws.{eqns-step, eqns-end, found-eqns-step, entered-uses, entered-found}
use Rattle.hp_typing.proofs.definitions.+define.Goals as goal

pub check_eqns-loop-eqn-preserved : goal.check_eqns-loop-eqn-preserved
check_eqns-loop-eqn-preserved t c =
    let eqns = c.args.eqns.now in
    let i = c.loop-eqn.eqn-index in
    let e = c.eqn-item.result in
    let more = c.loop-eqn-test.true in
    let is = c.eqn-item.is in
    let told = c.in_ok-check_eqn.ensures in
    let before = c.loop-eqn.invariant in
    record {
      scope = told.scope ∙ before.scope;
      uses = eqns-step eqns i e (how c.loop-eqn.uses) (how c.check_eqn.new.uses) _ more is told.uses before.uses;
      found = found-eqns-step eqns i e c.args.scope.now c.loop-eqn.scope c.loop-eqn.found c.check_eqn.new.found _ more is before.scope told.found before.found;
    }

pub check_eqns-returns-clause-uses : goal.check_eqns-returns-clause-uses
check_eqns-returns-clause-uses t c = eqns-end c.args.eqns.now c.loop-eqn.eqn-index (how c.loop-eqn.uses) _ c.loop-eqn-test.false c.loop-eqn.invariant.uses

pub enter_block-returns-clause-uses : goal.enter_block-returns-clause-uses
enter_block-returns-clause-uses t c =
    entered-uses c.block.inside.eqns.items c.deref-2.result.now c.block.inside.locals.items c.args.block.now (how c.new-uses.result) (how c.check_eqns.new.uses)
    c.block.view_is c.new-uses.ensures c.deref-2.ensures.value c.in_ok-check_eqns.ensures.uses

pub enter_block-returns-clause-found : goal.enter_block-returns-clause-found
enter_block-returns-clause-found t c =
    entered-found c.block.inside.eqns.items c.deref-2.result.now c.block.inside.locals.items c.args.block.now (how c.new-uses.result) (how c.check_eqns.new.uses)
    c.block.view_is c.new-uses.ensures c.deref-2.ensures.value c.in_ok-check_eqns.ensures.uses
    c.args.scope.now c.add_variables.new.scope c.deref.result.now c.deref-3.result.now c.args.found.now c.check_eqns.new.found c.check_variables.new.found
    c.in_ok-add_variables.ensures c.deref.ensures.value c.deref-3.ensures.value c.in_ok-check_eqns.ensures.found c.check_variables.ensures
