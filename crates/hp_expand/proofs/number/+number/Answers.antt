use Rattle.std.proofs.Common.{◌+◌, map, drop, ap, ◌∙◌}
use Rattle.hp_tree.specs.Blocks.{eqns_of, arms_of, states_of}
use Rattle.hp_tree.specs.BlockView.{eqn_seen, arm_seen, state_seen}
use Rattle.hp_expand.specs.Numbering.{new_in_eqn, new_in_eqns, new_in_arms, new_in_states, new_in_block}
use Rattle.hp_expand.specs.Layers.{said_in}
use Rattle.hp_expand.proofs.NumberingLaws.{eqns-on, arms-on, states-on, numbers-on, new-eqns-next, new-arms-next, new-states-next}
use Rattle.hp_expand.proofs.number.+number.Goals as goal

pub number_eqns-loop-eqn-preserved : goal.number_eqns-loop-eqn-preserved
number_eqns-loop-eqn-preserved t c =
    let first = c.args.numbers.now in
    let now = c.loop-eqn.numbers in
    let after = c.number_eqn.new.numbers in
    let known = c.loop-eqn.invariant in
    let step = c.in_ok-number_eqn.ensures in
    let eqns = c.args.eqns.now in
    let i = c.loop-eqn.eqn-index in
    let eqn = c.eqn-item.result in
    record {
      eqns = eqns-on (said_in first.layers.items) (said_in now.layers.items) (ap said_in known.layers) now.next after.next c.loop-eqn.others.items c.push.new.self.items c.in_ok-number_eqn.field-0
          eqns i eqn c.loop-eqn-test.true c.eqn-item.is step.next c.in_ok-push.ensures.items step.eqn
          ∙ known.eqns;
      layers = step.layers ∙ known.layers;
      next = numbers-on first.next now.next after.next (new_in_eqn (eqn_seen eqn)) (new_in_eqns (eqns_of (map eqn_seen (drop (i + 1) eqns)))) (new_in_eqns (eqns_of (map eqn_seen eqns)))
          (new_in_eqns (eqns_of (map eqn_seen (drop i eqns)))) step.next (new-eqns-next eqns i eqn c.loop-eqn-test.true c.eqn-item.is) known.next;
    }

pub number_arms-loop-arm-preserved : goal.number_arms-loop-arm-preserved
number_arms-loop-arm-preserved t c =
    let first = c.args.numbers.now in
    let now = c.loop-arm.numbers in
    let after = c.number_arm.new.numbers in
    let known = c.loop-arm.invariant in
    let step = c.in_ok-number_arm.ensures in
    let arms = c.args.arms.now in
    let i = c.loop-arm.arm-index in
    let arm = c.arm-item.result in
    record {
      arms = arms-on (said_in first.layers.items) (said_in now.layers.items) (ap said_in known.layers) now.next after.next c.loop-arm.others.items c.push.new.self.items c.in_ok-number_arm.field-0
          arms i arm c.loop-arm-test.true c.arm-item.is step.next c.in_ok-push.ensures.items step.arm
          ∙ known.arms;
      layers = step.layers ∙ known.layers;
      next = numbers-on first.next now.next after.next (new_in_block arm.body) (new_in_arms (arms_of (map arm_seen (drop (i + 1) arms)))) (new_in_arms (arms_of (map arm_seen arms)))
          (new_in_arms (arms_of (map arm_seen (drop i arms)))) step.next (new-arms-next arms i arm c.loop-arm-test.true c.arm-item.is) known.next;
    }

pub number_states-loop-state-preserved : goal.number_states-loop-state-preserved
number_states-loop-state-preserved t c =
    let first = c.args.numbers.now in
    let now = c.loop-state.numbers in
    let after = c.number_state.new.numbers in
    let known = c.loop-state.invariant in
    let step = c.in_ok-number_state.ensures in
    let states = c.args.states.now in
    let i = c.loop-state.state-index in
    let state = c.state-item.result in
    record {
      states = states-on (said_in first.layers.items) (said_in now.layers.items) (ap said_in known.layers) now.next after.next c.loop-state.others.items c.push.new.self.items c.in_ok-number_state.field-0
          states i state c.loop-state-test.true c.state-item.is step.next c.in_ok-push.ensures.items step.state
          ∙ known.states;
      layers = step.layers ∙ known.layers;
      next = numbers-on first.next now.next after.next (new_in_block state.body) (new_in_states (states_of (map state_seen (drop (i + 1) states)))) (new_in_states (states_of (map state_seen states)))
          (new_in_states (states_of (map state_seen (drop i states)))) step.next (new-states-next states i state c.loop-state-test.true c.state-item.is) known.next;
    }
