use Rattle.std.proofs.Common.{◌≡◌, ◌+◌, ◌*◌, drop, map}
use Rattle.hp_tree.specs.Blocks.{eqns_of, arms_of, states_of}
use Rattle.hp_tree.specs.BlockView.{eqn_seen, arm_seen, state_seen}
use Rattle.hp_tree.specs.Sizes.{lines, lines_of_eqn, lines_of_eqns, lines_of_arms, lines_of_states}
use Rattle.hp_expand.specs.Numbering.{in_eqns, in_arms, in_states, new_in_eqns, new_in_arms, new_in_states}
use Rattle.hp_expand.specs.Numbered.{eqns_onto, arms_onto, states_onto}
use Rattle.hp_expand.specs.Layers.{said_in}
use Rattle.hp_expand.proofs.number.+number.Given as goal

abbrev pub decreases-number_block : goal.decreases-number_block
decreases-number_block l = 6 * lines l.block.now + 1

abbrev pub decreases-number_inside : goal.decreases-number_inside
decreases-number_inside l = 6 * lines l.block.now

abbrev pub decreases-number_eqns : goal.decreases-number_eqns
decreases-number_eqns l = 6 * lines_of_eqns (eqns_of (map eqn_seen l.eqns.now)) + 1

abbrev pub decreases-number_eqn : goal.decreases-number_eqn
decreases-number_eqn l = 6 * lines_of_eqn (eqn_seen l.eqn.now)

abbrev pub decreases-number_arm : goal.decreases-number_arm
decreases-number_arm l = 6 * lines l.arm.now.body + 2

abbrev pub decreases-number_arms : goal.decreases-number_arms
decreases-number_arms l = 6 * lines_of_arms (arms_of (map arm_seen l.arms.now)) + 3

abbrev pub decreases-number_state : goal.decreases-number_state
decreases-number_state l = 6 * lines l.state.now.body + 2

abbrev pub decreases-number_states : goal.decreases-number_states
decreases-number_states l = 6 * lines_of_states (states_of (map state_seen l.states.now)) + 3

abbrev pub invariant-number_eqns-loop-eqn : goal.invariant-number_eqns-loop-eqn
invariant-number_eqns-loop-eqn l =
    record {
      eqns : eqns_onto (map eqn_seen l.others.items) (in_eqns (said_in l.initial.numbers.layers.items) l.numbers.next (eqns_of (map eqn_seen (drop l.eqn-index l.eqns))))
          ≡ in_eqns (said_in l.initial.numbers.layers.items) l.initial.numbers.next (eqns_of (map eqn_seen l.eqns));
      layers : l.numbers.layers.items ≡ l.initial.numbers.layers.items;
      next : l.numbers.next + new_in_eqns (eqns_of (map eqn_seen (drop l.eqn-index l.eqns))) ≡ l.initial.numbers.next + new_in_eqns (eqns_of (map eqn_seen l.eqns));
    }

abbrev pub invariant-number_arms-loop-arm : goal.invariant-number_arms-loop-arm
invariant-number_arms-loop-arm l =
    record {
      arms : arms_onto (map arm_seen l.others.items) (in_arms (said_in l.initial.numbers.layers.items) l.numbers.next (arms_of (map arm_seen (drop l.arm-index l.arms))))
          ≡ in_arms (said_in l.initial.numbers.layers.items) l.initial.numbers.next (arms_of (map arm_seen l.arms));
      layers : l.numbers.layers.items ≡ l.initial.numbers.layers.items;
      next : l.numbers.next + new_in_arms (arms_of (map arm_seen (drop l.arm-index l.arms))) ≡ l.initial.numbers.next + new_in_arms (arms_of (map arm_seen l.arms));
    }

abbrev pub invariant-number_states-loop-state : goal.invariant-number_states-loop-state
invariant-number_states-loop-state l =
    record {
      states : states_onto (map state_seen l.others.items) (in_states (said_in l.initial.numbers.layers.items) l.numbers.next (states_of (map state_seen (drop l.state-index l.states))))
          ≡ in_states (said_in l.initial.numbers.layers.items) l.initial.numbers.next (states_of (map state_seen l.states));
      layers : l.numbers.layers.items ≡ l.initial.numbers.layers.items;
      next : l.numbers.next + new_in_states (states_of (map state_seen (drop l.state-index l.states))) ≡ l.initial.numbers.next + new_in_states (states_of (map state_seen l.states));
    }
