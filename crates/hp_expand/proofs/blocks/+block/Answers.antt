use Rattle.std.proofs.Common.{◌≡◌, ◌+◌, ◌++◌, map, drop, sym, ap, ◌∙◌}
use Rattle.hp_tree.specs.BlockView.{eqn_seen}
use Rattle.hp_tree.specs.Blocks.{Eqns, eqns_of, list_of_eqns}
use Rattle.hp_expand.specs.Replacing.{Replaced, locals_of, in_block, in_eqn, in_eqns}
use Rattle.hp_expand.specs.Making.{with_more}
use Rattle.hp_expand.specs.NodeTables.{node_in}
use Rattle.hp_expand.proofs.MakingLaws.{more-on}
use Rattle.hp_expand.proofs.BlockMaking.{block-made, eqns-from, placed-list, arms-next, arms-further, states-next, states-further}
use Rattle.hp_expand.proofs.blocks.+block.Goals as goal

pub replace_eqns-loop-eqn-preserved : goal.replace_eqns-loop-eqn-preserved
replace_eqns-loop-eqn-preserved t c =
    let nodes = node_in c.args.nodes.now in
    let first = c.args.made.now in
    let now = c.loop-eqn.made in
    let after = c.replace_eqn.new.made in
    let known = c.loop-eqn.invariant in
    let step = c.in_ok-replace_eqn.ensures in
    let eqns = c.args.eqns.now in
    let i = c.loop-eqn.eqn-index in
    let eqn = c.eqn-item.result in
    let own = in_eqn nodes now.next (eqn_seen eqn) in
    let rest = in_eqns nodes after.next (eqns_of (map eqn_seen (drop (i + 1) eqns))) in
    let further = in_eqns nodes own.next (eqns_of (map eqn_seen (drop (i + 1) eqns))) in
    let from = in_eqns nodes now.next (eqns_of (map eqn_seen (drop i eqns))) in
    let all = in_eqns nodes first.next (eqns_of (map eqn_seen eqns)) in
    let here = eqns-from nodes now.next eqns i eqn c.loop-eqn-test.true c.eqn-item.is in
    let on : further ≡ rest = sym (ap (λ k. in_eqns nodes k (eqns_of (map eqn_seen (drop (i + 1) eqns)))) step.next) in
    record {
      locals = more-on now.locals.items after.locals.items own.locals rest.locals from.locals (with_more first.locals.items all.locals) step.locals
          (ap (λ (r : Replaced Eqns). r.locals) here ∙ ap (λ (r : Replaced Eqns). own.locals ++ r.locals) on) known.locals;
      eqns = more-on (map eqn_seen now.eqns.items) (map eqn_seen after.eqns.items) (own.before ++ own.part) (list_of_eqns rest.part) (list_of_eqns from.part) (with_more (map eqn_seen first.eqns.items) (list_of_eqns all.part)) step.eqns
          (ap (λ (r : Replaced Eqns). list_of_eqns r.part) here ∙ placed-list nodes own further ∙ ap (λ (r : Replaced Eqns). (own.before ++ own.part) ++ list_of_eqns r.part) on) known.eqns;
      next = sym (ap (λ (r : Replaced Eqns). r.next) here ∙ ap (λ (r : Replaced Eqns). r.next) on) ∙ known.next;
    }

pub replace_arms-loop-arm-preserved : goal.replace_arms-loop-arm-preserved
replace_arms-loop-arm-preserved t c =
    let nodes = node_in c.args.nodes.now in
    let now = c.loop-arm.next in
    let after = c.replace_arm.new.next in
    let known = c.loop-arm.invariant in
    let step = c.in_ok-replace_arm.ensures in
    let arms = c.args.arms.now in
    let i = c.loop-arm.arm-index in
    let arm = c.arm-item.result in
    record {
      arms = arms-next nodes now after c.loop-arm.others.items c.push.new.self.items c.in_ok-replace_arm.field-0 arms i arm c.loop-arm-test.true c.arm-item.is step.next c.in_ok-push.ensures.items step.arm ∙ known.arms;
      next = arms-further nodes now after arms i arm c.loop-arm-test.true c.arm-item.is step.next ∙ known.next;
    }

pub replace_states-loop-state-preserved : goal.replace_states-loop-state-preserved
replace_states-loop-state-preserved t c =
    let nodes = node_in c.args.nodes.now in
    let now = c.loop-state.next in
    let after = c.replace_state.new.next in
    let known = c.loop-state.invariant in
    let step = c.in_ok-replace_state.ensures in
    let states = c.args.states.now in
    let i = c.loop-state.state-index in
    let state = c.state-item.result in
    record {
      states = states-next nodes now after c.loop-state.others.items c.push.new.self.items c.in_ok-replace_state.field-0 states i state c.loop-state-test.true c.state-item.is step.next c.in_ok-push.ensures.items step.state ∙ known.states;
      next = states-further nodes now after states i state c.loop-state-test.true c.state-item.is step.next ∙ known.next;
    }

pub replace_block-returns-clause-block : goal.replace_block-returns-clause-block
replace_block-returns-clause-block t c =
    let nodes = node_in c.args.nodes.now in
    let first = c.in_ok-made.ensures in
    let made = c.in_ok-replace_eqns.ensures in
    let ds = c.block.inside.locals.items in
    let es = eqns_of (map eqn_seen c.block.inside.eqns.items) in
    let all = in_eqns nodes c.args.next.now es in
    let same : in_eqns nodes c.in_ok-made.made.next (eqns_of (map eqn_seen c.deref.result.now)) ≡ all =
    (λ j. in_eqns nodes (first.next j) (eqns_of (map eqn_seen (c.deref.ensures.value j)))) in
    let own : c.in_ok-made.made.locals.items ≡ ds = first.locals ∙ sym (ap locals_of c.block.view_is) in
    c.finish.ensures
    ∙ block-made nodes c.args.next.now ds c.replace_eqns.new.made.locals.items es (map eqn_seen c.replace_eqns.new.made.eqns.items)
    (made.locals ∙ (λ j. with_more (own j) (same j).locals)) (made.eqns ∙ (λ j. with_more (first.eqns j) (list_of_eqns (same j).part)))
    ∙ ap (λ b. (in_block nodes c.args.next.now b).part) c.block.view_is
