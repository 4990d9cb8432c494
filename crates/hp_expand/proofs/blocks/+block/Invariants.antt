use Rattle.std.proofs.Common.{◌≡◌, ◌+◌, ◌*◌, drop, map}
use Rattle.hp_tree.specs.Blocks.{eqns_of, arms_of, states_of, list_of_eqns}
use Rattle.hp_tree.specs.BlockView.{eqn_seen, arm_seen, state_seen}
use Rattle.hp_tree.specs.Sizes.{lines, lines_of_eqn, lines_of_eqns, lines_of_arms, lines_of_states}
use Rattle.hp_expand.specs.Replacing.{in_eqns, in_arms, in_states}
use Rattle.hp_expand.specs.Numbered.{arms_onto, states_onto}
use Rattle.hp_expand.specs.Making.{with_more}
use Rattle.hp_expand.specs.NodeTables.{node_in}
use Rattle.hp_expand.proofs.blocks.+block.Given as goal

abbrev pub decreases-replace_block : goal.decreases-replace_block
decreases-replace_block l = 4 * lines l.block.now

abbrev pub decreases-replace_eqns : goal.decreases-replace_eqns
decreases-replace_eqns l = 4 * lines_of_eqns (eqns_of (map eqn_seen l.eqns.now)) + 1

abbrev pub decreases-replace_eqn : goal.decreases-replace_eqn
decreases-replace_eqn l = 4 * lines_of_eqn (eqn_seen l.eqn.now)

abbrev pub decreases-replace_arm : goal.decreases-replace_arm
decreases-replace_arm l = 4 * lines l.arm.now.body + 1

abbrev pub decreases-replace_arms : goal.decreases-replace_arms
decreases-replace_arms l = 4 * lines_of_arms (arms_of (map arm_seen l.arms.now)) + 2

abbrev pub decreases-replace_state : goal.decreases-replace_state
decreases-replace_state l = 4 * lines l.state.now.body + 1

abbrev pub decreases-replace_states : goal.decreases-replace_states
decreases-replace_states l = 4 * lines_of_states (states_of (map state_seen l.states.now)) + 2

abbrev pub invariant-replace_eqns-loop-eqn : goal.invariant-replace_eqns-loop-eqn
invariant-replace_eqns-loop-eqn l =
    record {
      locals : with_more l.made.locals.items (in_eqns (node_in l.nodes) l.made.next (eqns_of (map eqn_seen (drop l.eqn-index l.eqns)))).locals
          ≡ with_more l.initial.made.locals.items (in_eqns (node_in l.nodes) l.initial.made.next (eqns_of (map eqn_seen l.eqns))).locals;
      eqns : with_more (map eqn_seen l.made.eqns.items) (list_of_eqns (in_eqns (node_in l.nodes) l.made.next (eqns_of (map eqn_seen (drop l.eqn-index l.eqns)))).part)
          ≡ with_more (map eqn_seen l.initial.made.eqns.items) (list_of_eqns (in_eqns (node_in l.nodes) l.initial.made.next (eqns_of (map eqn_seen l.eqns))).part);
      next : (in_eqns (node_in l.nodes) l.made.next (eqns_of (map eqn_seen (drop l.eqn-index l.eqns)))).next ≡ (in_eqns (node_in l.nodes) l.initial.made.next (eqns_of (map eqn_seen l.eqns))).next;
    }

abbrev pub invariant-replace_arms-loop-arm : goal.invariant-replace_arms-loop-arm
invariant-replace_arms-loop-arm l =
    record {
      arms : arms_onto (map arm_seen l.others.items) (in_arms (node_in l.nodes) l.next (arms_of (map arm_seen (drop l.arm-index l.arms)))).part ≡ (in_arms (node_in l.nodes) l.initial.next (arms_of (map arm_seen l.arms))).part;
      next : (in_arms (node_in l.nodes) l.next (arms_of (map arm_seen (drop l.arm-index l.arms)))).next ≡ (in_arms (node_in l.nodes) l.initial.next (arms_of (map arm_seen l.arms))).next;
    }

abbrev pub invariant-replace_states-loop-state : goal.invariant-replace_states-loop-state
invariant-replace_states-loop-state l =
    record {
      states : states_onto (map state_seen l.others.items) (in_states (node_in l.nodes) l.next (states_of (map state_seen (drop l.state-index l.states)))).part ≡ (in_states (node_in l.nodes) l.initial.next (states_of (map state_seen l.states))).part;
      next : (in_states (node_in l.nodes) l.next (states_of (map state_seen (drop l.state-index l.states)))).next ≡ (in_states (node_in l.nodes) l.initial.next (states_of (map state_seen l.states))).next;
    }
