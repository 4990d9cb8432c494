use Rattle.std.proofs.Common.{◌≡◌, ◌+◌, ◌*◌, ◌++◌, drop, map}
use Rattle.hp_tree.specs.Blocks.{eqns_of, arms_of, states_of}
use Rattle.hp_tree.specs.BlockView.{eqn_seen, arm_seen, state_seen}
use Rattle.hp_tree.specs.Sizes.{lines, lines_of_eqn, lines_of_eqns, lines_of_arms, lines_of_states}
use Rattle.hp_typing.specs.Breaches.{found_after}
use Rattle.hp_typing.specs.Uses.{both, how, use_in_eqns, uses_in_arms, uses_in_states}
use Rattle.hp_typing.specs.Definedness.{in_eqns, in_arms, in_states}
use Rattle.hp_typing.proofs.definitions.+define.Given as goal

abbrev pub decreases-enter_block : goal.decreases-enter_block
decreases-enter_block l = 5 * lines l.block.now

abbrev pub decreases-check_block : goal.decreases-check_block
decreases-check_block l = 5 * lines l.block.now + 1

abbrev pub decreases-check_eqns : goal.decreases-check_eqns
decreases-check_eqns l = 5 * lines_of_eqns (eqns_of (map eqn_seen l.eqns.now)) + 1

abbrev pub decreases-check_eqn : goal.decreases-check_eqn
decreases-check_eqn l = 5 * lines_of_eqn (eqn_seen l.eqn.now)

abbrev pub decreases-check_arms : goal.decreases-check_arms
decreases-check_arms l = 5 * lines_of_arms (arms_of (map arm_seen l.arms.now)) + 2

abbrev pub decreases-uses_of_arms : goal.decreases-uses_of_arms
decreases-uses_of_arms l = 5 * lines_of_arms (arms_of (map arm_seen l.arms.now)) + 3

abbrev pub decreases-uses_of_states : goal.decreases-uses_of_states
decreases-uses_of_states l = 5 * lines_of_states (states_of (map state_seen l.states.now)) + 4

abbrev pub decreases-check_states : goal.decreases-check_states
decreases-check_states l = 5 * lines_of_states (states_of (map state_seen l.states.now)) + 3

abbrev pub decreases-check_state : goal.decreases-check_state
decreases-check_state l = 5 * lines l.state.now.body + 2

abbrev pub invariant-check_eqns-loop-eqn : goal.invariant-check_eqns-loop-eqn
invariant-check_eqns-loop-eqn l =
    record {
      scope : l.scope ≡ l.initial.scope;
      uses : both (how l.uses) (use_in_eqns (eqns_of (map eqn_seen (drop l.eqn-index l.eqns)))) ≡ both (how l.initial.uses) (use_in_eqns (eqns_of (map eqn_seen l.eqns)));
      found : found_after l.found (in_eqns l.initial.scope (eqns_of (map eqn_seen (drop l.eqn-index l.eqns))))
          ≡ found_after l.initial.found (in_eqns l.initial.scope (eqns_of (map eqn_seen l.eqns)));
    }

abbrev pub invariant-check_arms-loop-arm : goal.invariant-check_arms-loop-arm
invariant-check_arms-loop-arm l =
    record {
      scope : l.scope ≡ l.initial.scope;
      blocks : map how l.blocks.items ++ uses_in_arms (arms_of (map arm_seen (drop l.arm-index l.arms)))
          ≡ map how l.initial.blocks.items ++ uses_in_arms (arms_of (map arm_seen l.arms));
      found : found_after l.found (in_arms l.initial.scope (arms_of (map arm_seen (drop l.arm-index l.arms))))
          ≡ found_after l.initial.found (in_arms l.initial.scope (arms_of (map arm_seen l.arms)));
    }

abbrev pub invariant-check_states-loop-state : goal.invariant-check_states-loop-state
invariant-check_states-loop-state l =
    record {
      scope : l.scope ≡ l.initial.scope;
      blocks : map how l.blocks.items ++ uses_in_states (states_of (map state_seen (drop l.state-index l.states)))
          ≡ map how l.initial.blocks.items ++ uses_in_states (states_of (map state_seen l.states));
      found : found_after l.found (in_states l.initial.scope (states_of (map state_seen (drop l.state-index l.states))))
          ≡ found_after l.initial.found (in_states l.initial.scope (states_of (map state_seen l.states)));
    }
