use Rattle.std.proofs.Common.{◌≡◌, ◌+◌, ◌*◌, length, take, drop, map}
use Rattle.hp_tree.specs.Blocks.{eqns_of, arms_of, states_of}
use Rattle.hp_tree.specs.BlockView.{eqn_seen, arm_seen, state_seen}
use Rattle.hp_tree.specs.Sizes.{lines, lines_of_eqn, lines_of_eqns, lines_of_arms, lines_of_states}
use Rattle.hp_automata.specs.Lowering.{lowered_eqns, lowered_states}
use Rattle.hp_automata.specs.Inside.{lowered_arm}
use Rattle.hp_automata.specs.Lists.{names_seen, with_more}
use Rattle.hp_automata.specs.Held.{frame_seen, said}
use Rattle.hp_automata.proofs.blocks.+lower.Given as goal

abbrev pub decreases-lower_block : goal.decreases-lower_block
decreases-lower_block l = 8 * lines l.block.now + 3

abbrev pub decreases-lower_inside : goal.decreases-lower_inside
decreases-lower_inside l = 8 * lines l.block.now + 1

abbrev pub decreases-add_lowered : goal.decreases-add_lowered
decreases-add_lowered l = 8 * lines_of_eqns (eqns_of (map eqn_seen l.eqns.now)) + 1

abbrev pub decreases-lower_eqn : goal.decreases-lower_eqn
decreases-lower_eqn l = 8 * lines_of_eqn (eqn_seen l.eqn.now)

abbrev pub decreases-lower_arms : goal.decreases-lower_arms
decreases-lower_arms l = 8 * lines_of_arms (arms_of (map arm_seen l.arms.now)) + 6

abbrev pub decreases-lower_each : goal.decreases-lower_each
decreases-lower_each l = 8 * lines_of_arms (arms_of (map arm_seen l.arms.now)) + 5

abbrev pub decreases-lower_arm : goal.decreases-lower_arm
decreases-lower_arm l = 8 * lines l.arm.now.body + 4

abbrev pub decreases-lower_automaton : goal.decreases-lower_automaton
decreases-lower_automaton l = 8 * lines_of_states (states_of (map state_seen l.states.now)) + 7

abbrev pub decreases-lower_frame : goal.decreases-lower_frame
decreases-lower_frame l = 8 * lines_of_states (states_of (map state_seen l.states.now)) + 6

abbrev pub decreases-add_states : goal.decreases-add_states
decreases-add_states l = 8 * lines_of_states (states_of (map state_seen l.states.now)) + 5

abbrev pub decreases-add_state : goal.decreases-add_state
decreases-add_state l = 8 * lines l.state.now.body + 4

abbrev pub decreases-lower_body : goal.decreases-lower_body
decreases-lower_body l = 8 * lines l.state.now.body + 3

abbrev pub decreases-lower_in_state : goal.decreases-lower_in_state
decreases-lower_in_state l = 8 * lines l.block.now + 1

abbrev pub invariant-add_lowered-loop-eqn : goal.invariant-add_lowered-loop-eqn
invariant-add_lowered-loop-eqn l =
    record {
      eqns : with_more (map eqn_seen l.into.items) (lowered_eqns l.enums (said l.initial.around.layers.items) l.initial.around.types (length l.initial.around.layers.items) (eqns_of (map eqn_seen (drop l.eqn-index l.eqns))))
          ≡ with_more (map eqn_seen l.initial.into.items) (lowered_eqns l.enums (said l.initial.around.layers.items) l.initial.around.types (length l.initial.around.layers.items) (eqns_of (map eqn_seen l.eqns)));
      types : l.around.types ≡ l.initial.around.types;
      layers : l.around.layers.items ≡ l.initial.around.layers.items;
    }

abbrev pub invariant-lower_each-loop-arm : goal.invariant-lower_each-loop-arm
invariant-lower_each-loop-arm l =
    record {
      arms : map arm_seen l.others.items
          ≡ map (λ a. lowered_arm l.enums (said l.initial.around.layers.items) l.initial.around.types (length l.initial.around.layers.items) (names_seen l.names) (arm_seen a)) (take l.arm-index l.arms);
      types : l.around.types ≡ l.initial.around.types;
      layers : l.around.layers.items ≡ l.initial.around.layers.items;
    }

abbrev pub invariant-add_states-loop-i : goal.invariant-add_states-loop-i
invariant-add_states-loop-i l =
    record {
      eqns : with_more (map eqn_seen l.into.items) (lowered_states l.enums (said l.initial.around.layers.items) l.initial.around.types (frame_seen l.frame) l.i (states_of (map state_seen (drop l.i l.states))))
          ≡ with_more (map eqn_seen l.initial.into.items) (lowered_states l.enums (said l.initial.around.layers.items) l.initial.around.types (frame_seen l.frame) 0 (states_of (map state_seen l.states)));
      types : l.around.types ≡ l.initial.around.types;
      layers : l.around.layers.items ≡ l.initial.around.layers.items;
    }
